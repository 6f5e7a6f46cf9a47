-- The bodies of answers, as JSON. The members are in the order of their keys.
use Rattle.std.specs.Prelude.{ℕ, Bool, List, Option, Some, None, map, codes, cond}
use Rattle.serde_json.specs.{Data.{Data, unsigned, number, string, array, object, Items, member, no_members}, View.{items_of}}
use Rattle.moo_value.specs.{declared.value.ObjNo.{ObjNo}, declared.value.Value.{Value}, declared.value.Value.TheVariants.{Obj}}
use Rattle.moo_value.specs.Literal.{print}
use Rattle.moo_dump.specs.declared.seen.Look.{Look}

-- an array of texts
abbrev pub strings : List (List ℕ) → Items
strings texts = items_of (map string texts)

-- a word under `error`, and why, if that is told
abbrev pub error_body : Option (List ℕ) → List ℕ → Data
error_body None word = object (member (codes "error") (string word) no_members)
error_body (Some why) word = object (member (codes "error") (string word) (member (codes "why") (string why) no_members))

-- a call, by its number, what befell it, and why, if that is told
abbrev pub call_body : Option (List ℕ) → ℕ → List ℕ → Data
call_body None call word = object (member (codes "call") (number (unsigned call)) (member (codes "error") (string word) no_members))
call_body (Some why) call word =
    object (member (codes "call") (number (unsigned call)) (member (codes "error") (string word) (member (codes "why") (string why) no_members)))

-- the refusal of a batch that named another number of accepted batches, with the present one
abbrev pub stale_body : ℕ → Data
stale_body seq = object (member (codes "error") (string (codes "stale")) (member (codes "seq") (number (unsigned seq)) no_members))

-- each answer as its printed literal, and the number of accepted batches
abbrev pub accepted_body : List Value → ℕ → Data
accepted_body answers seq = object (member (codes "answers") (array (strings (map print answers))) (member (codes "seq") (number (unsigned seq)) no_members))

-- an object as its printed literal, such as #3
abbrev pub object_text : ObjNo → List ℕ
object_text x = print (Obj x)

-- an array of objects, each as its printed literal
abbrev pub objects : List ObjNo → Data
objects xs = array (strings (map object_text xs))

-- 1 for a flag that is set, and else 0
abbrev pub flag_data : Bool → Data
flag_data set = number (unsigned (cond set 1 0))

-- the fields of an object, its children and what is in it
abbrev pub look_body : Look → Data
look_body l = object
    (member (codes "children") (objects l.children)
    (member (codes "contents") (objects l.contents)
    (member (codes "f") (flag_data l.f)
    (member (codes "location") (string (object_text l.location))
    (member (codes "name") (string l.name)
    (member (codes "owner") (string (object_text l.owner))
    (member (codes "parent") (string (object_text l.parent))
    (member (codes "player") (flag_data l.player)
    (member (codes "programmer") (flag_data l.programmer)
    (member (codes "r") (flag_data l.r)
    (member (codes "w") (flag_data l.w)
    (member (codes "wizard") (flag_data l.wizard) no_members))))))))))))
