-- That words name one task.
use Rattle.std.{proofs.Common.{◌≡◌, ◌<◌, ◌≤◌, inl, inr, ℕ, List, Option, Some, None, option_map, refl, sym, ap, subst, ◌∙◌, arith, length}, proofs.lemmas.Bool.{true≢false}, specs.Str.{bytes_eq}, specs.Str.Parse.{digits_value, without_leading_plus}}
use Rattle.std.specs.Prelude.{codes, find, option_and_then, slice_get}
use Rattle.clap.{specs.Walk.{Row, Text, first_of, one_of, row_text}, specs.Values.{read_as}, specs.Simple.{subcommand_of}}
use Rattle.moo_cli.{specs.Commands.{moo_app}, specs.declared.task.Task.{Task}, specs.declared.task.Service.{Service}, specs.declared.task.Action.{Action}, specs.declared.task.Action.TheVariants.{Init, Apply, Rehearse, Ask, Dump, Load, Check, Serve}, specs.declared.task.Options.{Options}, specs.Tasks.{HasNumber, HasNumberOr, IsService, HasArguments, IsTask, IsDefault, NamesTask, NamesAlone, command_of, text_word, options_of, service_of, request_of}}

same_some : {A : Type 0} (o : Option A) (a b : A) → o ≡ Some a → o ≡ Some b → a ≡ b
same_some o a b e f = let same : Some a ≡ Some b = sym e ∙ f in cc

one_number : (rows : List Row) (id : Text) (n m : ℕ) → HasNumber rows id n → HasNumber rows id m → n ≡ m
one_number rows id n m (text, one, digits, value) (other, also, numeral, worth) =
    sym value ∙ ap (λ t. digits_value 10 (without_leading_plus t)) (same_some (one_of id rows) text other one also) ∙ worth

-- an argument that isn't there has no number
none_then : (id : Text) (rows : List Row) → first_of id rows ≡ None → one_of id rows ≡ None
none_then id rows none = go (find (λ r. bytes_eq r.id id) rows) none
  where
    go : (o : Option Row) → option_and_then (λ r. slice_get r.values 0) o ≡ None → option_and_then row_text o ≡ None
    go None e = refl
    go (Some row) e = ap (option_map (read_as row.reading)) e

not_absent : (rows : List Row) (id : Text) (n : ℕ) → HasNumber rows id n → first_of id rows ≡ None → ⊥
not_absent rows id n (text, one, digits, value) none = let bad : Some text ≡ None = sym one ∙ none_then id rows none in cc

one_or : (rows : List Row) (id : Text) (least most absent n m : ℕ) → HasNumberOr rows id least most absent n → HasNumberOr rows id least most absent m → n ≡ m
one_or rows id least most absent n m (inl of) (inl also) = one_number rows id n m of.0 also.0
one_or rows id least most absent n m (inl of) (inr also) = absurd (not_absent rows id n of.0 also.0)
one_or rows id least most absent n m (inr of) (inl also) = absurd (not_absent rows id m also.0 of.0)
one_or rows id least most absent n m (inr of) (inr also) = of.1 ∙ sym also.1

one_service : (rows : List Row) (a b : Service) → IsService rows a → IsService rows b → a ≡ b
one_service rows a b of also =
    let port : a.port ≡ b.port = one_number rows (codes "PORT") a.port b.port of.0 also.0 in
    let count : a.count ≡ b.count = one_or rows (codes "COUNT") 0 1000000 4294967295 a.count b.count of.2 also.2 in
    let ticks : a.ticks ≡ b.ticks = one_or rows (codes "ticks") 1000 4294967295 4000000 a.ticks b.ticks of.3 also.3 in
    λ i. record { port = port i; count = count i; ticks = ticks i }

one_options : (a b : Options) → a.stop ≡ b.stop → a ≡ b
one_options a b same = ap (λ stop. record { stop = stop }) same

one_action : (rows : List Row) (a b : Action) → command_of a ≡ command_of b → HasArguments rows a → HasArguments rows b → (text_word a ≡ text_word b) × (options_of a ≡ options_of b) × (service_of a ≡ service_of b)
one_action rows (Apply batches) (Apply others) same of also = (sym of.0 ∙ also.0, ap Some (one_options batches.options others.options (of.1 ∙ sym also.1)), refl)
one_action rows (Rehearse batches) (Rehearse others) same of also = (sym of.0 ∙ also.0, ap Some (one_options batches.options others.options (of.1 ∙ sym also.1)), refl)
one_action rows (Ask batches) (Ask others) same of also = (sym of ∙ also, refl, refl)
one_action rows (Load dump) (Load other) same of also = (sym of ∙ also, refl, refl)
one_action rows (Serve service) (Serve other) same of also = (refl, refl, ap Some (one_service rows service other of also))
one_action rows Init Init same of also = (refl, refl, refl)
one_action rows Dump Dump same of also = (refl, refl, refl)
one_action rows Check Check same of also = (refl, refl, refl)
one_action rows a b same of also = absurd (true≢false (ap (bytes_eq (command_of a)) same))

one_task : (found : Text × List Row) (a b : Task) → IsTask found a → IsTask found b → request_of a ≡ request_of b
one_task found a b (of, name, arguments) (also, other, others) =
    let commands : command_of a.action ≡ command_of b.action = sym name ∙ other in
    let files : a.file.now ≡ b.file.now = same_some _ _ _ of also in
    let words = one_action found.1 a.action b.action commands arguments others in
    let texts : text_word a.action ≡ text_word b.action = words.0 in
    let options : options_of a.action ≡ options_of b.action = words.1 in
    let services : service_of a.action ≡ service_of b.action = words.2 in
    cc

one_default : (a b : Task) → IsDefault a → IsDefault b → request_of a ≡ request_of b
one_default a b (file, batches, is, path, stop) (also, others, are, place, stops) =
    let commands : command_of a.action ≡ command_of b.action = ap command_of is ∙ sym (ap command_of are) in
    let files : a.file.now ≡ b.file.now = file ∙ sym also in
    let texts : text_word a.action ≡ text_word b.action = ap text_word is ∙ ap Some (path ∙ sym place) ∙ sym (ap text_word are) in
    let same = one_options batches.options others.options (stop ∙ sym stops) in
    let options : options_of a.action ≡ options_of b.action = ap options_of is ∙ ap Some same ∙ sym (ap options_of are) in
    let services : service_of a.action ≡ service_of b.action = ap service_of is ∙ sym (ap service_of are) in
    cc

not_both : (n : ℕ) → n ≤ 1 → 1 < n → ⊥
not_both n few many = omega (arith, few, many)

-- words that name a task name no other
pub names_alone : (words : List Text) (task : Task) → NamesTask words task → NamesAlone words task
names_alone words task (inl (few, default)) other (inl (also, the_other)) = one_default other task the_other default
names_alone words task (inl (few, default)) other (inr (many, none, found, is, of)) = absurd (not_both (length words) few many)
names_alone words task (inr (many, none, found, is, of)) other (inl (few, default)) = absurd (not_both (length words) few many)
names_alone words task (inr (many, none, found, is, of)) other (inr (more, sound, also, same, the_other)) =
    let one : found ≡ also = same_some (subcommand_of moo_app words) found also is same in
    one_task also other task the_other (subst (λ pair. IsTask pair task) one of)
