-- The body that tells a page of objects, as JSON. The members are in the order of their keys.
use Rattle.std.specs.Prelude.{ℕ, Option, Some, None, map, codes}
use Rattle.serde_json.specs.{Data.{Data, unsigned, number, string, array, object, null, member, no_members}, View.{items_of}}
use Rattle.moo_value.specs.declared.value.ObjNo.{ObjNo}
use Rattle.moo_http_response.specs.{declared.entry.Entry.{Entry}, declared.page.Page.{Page}, Bodies.{object_text, flag_data}}

-- an object in a list, with its number and its fields
abbrev pub entry_body : Entry → Data
entry_body e = object
    (member (codes "f") (flag_data e.f)
    (member (codes "location") (string (object_text e.location))
    (member (codes "name") (string e.name)
    (member (codes "number") (string (object_text e.number))
    (member (codes "owner") (string (object_text e.owner))
    (member (codes "parent") (string (object_text e.parent))
    (member (codes "player") (flag_data e.player)
    (member (codes "programmer") (flag_data e.programmer)
    (member (codes "r") (flag_data e.r)
    (member (codes "w") (flag_data e.w)
    (member (codes "wizard") (flag_data e.wizard) no_members)))))))))))

-- an object as its printed literal, or null
abbrev pub next_data : Option ObjNo → Data
next_data None = null
next_data (Some x) = string (object_text x)

-- the objects of a page, the first that it leaves out, and the number of accepted batches
abbrev pub page_body : Page → ℕ → Data
page_body page seq = object
    (member (codes "next") (next_data page.next)
    (member (codes "objects") (array (items_of (map entry_body page.objects)))
    (member (codes "seq") (number (unsigned seq)) no_members)))
