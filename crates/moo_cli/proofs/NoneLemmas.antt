-- That no number, no service and no action is given, if what would tell it isn't there.
use Rattle.std.{proofs.Common.{◌≡◌, ◌<◌, ◌^◌, inl, inr, ℕ, List, Some, None, true, sym, ap, ◌∙◌, arith}, proofs.lemmas.Bool.{true≢false}, specs.Prelude.{codes}, specs.Str.{bytes_eq}}
use Rattle.clap.specs.Walk.{Row, Text, first_of}
use Rattle.moo_cli.{specs.declared.task.Service.{Service}, specs.declared.task.Action.{Action}, specs.declared.task.Action.TheVariants.{Serve}, specs.Tasks.{HasNumber, HasNumberOr, IsService, HasArguments, command_of}}

pub no_number : (rows : List Row) (id text : Text) (least most absent : ℕ) → most < 2 ^ 32 → first_of id rows ≡ Some text → ((n : ℕ) → ¬ (HasNumber rows id n × (n < 2 ^ 32)))
    → (n : ℕ) → ¬ (HasNumberOr rows id least most absent n)
no_number rows id text least most absent bound given none n (inl has) = none n (has.0, omega (arith, bound, has.1.1))
no_number rows id text least most absent bound given none n (inr has) = let bad : Some text ≡ None = sym given ∙ has.0 in cc

pub no_port : (rows : List Row) → ((n : ℕ) → ¬ (HasNumber rows (codes "PORT") n × (n < 2 ^ 32))) → (service : Service) → ¬ (IsService rows service)
no_port rows none service has = none service.port (has.0, omega (arith, has.1.1))

pub no_end : (rows : List Row) → ((n : ℕ) → ¬ (HasNumberOr rows (codes "COUNT") 0 1000000 4294967295 n)) → (service : Service) → ¬ (IsService rows service)
no_end rows none service has = none service.count has.2

pub no_bound : (rows : List Row) → ((n : ℕ) → ¬ (HasNumberOr rows (codes "ticks") 1000 4294967295 4000000 n)) → (service : Service) → ¬ (IsService rows service)
no_bound rows none service has = none service.ticks has.3

-- the command `serve` is no other
pub no_service : (rows : List Row) (name : Text) → bytes_eq name (codes "serve") ≡ true → ((service : Service) → ¬ (IsService rows service)) → (action : Action)
    → ¬ ((name ≡ command_of action) × HasArguments rows action)
no_service rows name is none (Serve service) has = none service has.1
no_service rows name is none action has = absurd (true≢false (sym is ∙ ap (λ word. bytes_eq word (codes "serve")) has.0))
