-- The fields of an object, put one after another among others.
use Rattle.std.specs.Prelude.{codes}
use Rattle.serde_json.specs.Data.{Members, string, put}
use Rattle.moo_dump.specs.declared.seen.Look.{Look}
use Rattle.moo_http_response.specs.{declared.entry.Entry.{Entry}, Bodies.{object_text, objects, flag_data}}

-- the name of an object and the objects that its fields name, put among other members
abbrev pub with_links : Look → Members → Members
with_links l fields =
    put (codes "parent") (string (object_text l.parent))
    (put (codes "owner") (string (object_text l.owner))
    (put (codes "name") (string l.name)
    (put (codes "location") (string (object_text l.location))
    (put (codes "contents") (objects l.contents)
    (put (codes "children") (objects l.children) fields)))))

-- the flags of an object, put among other members
abbrev pub with_flags : Look → Members → Members
with_flags l fields =
    put (codes "wizard") (flag_data l.wizard)
    (put (codes "w") (flag_data l.w)
    (put (codes "r") (flag_data l.r)
    (put (codes "programmer") (flag_data l.programmer)
    (put (codes "player") (flag_data l.player)
    (put (codes "f") (flag_data l.f) fields)))))

-- the number and the name of an object in a list, and the objects that its fields name, put among other members
abbrev pub with_entry_links : Entry → Members → Members
with_entry_links e fields =
    put (codes "parent") (string (object_text e.parent))
    (put (codes "owner") (string (object_text e.owner))
    (put (codes "number") (string (object_text e.number))
    (put (codes "name") (string e.name)
    (put (codes "location") (string (object_text e.location)) fields))))

-- the flags of an object in a list, put among other members
abbrev pub with_entry_flags : Entry → Members → Members
with_entry_flags e fields =
    put (codes "wizard") (flag_data e.wizard)
    (put (codes "w") (flag_data e.w)
    (put (codes "r") (flag_data e.r)
    (put (codes "programmer") (flag_data e.programmer)
    (put (codes "player") (flag_data e.player)
    (put (codes "f") (flag_data e.f) fields)))))
