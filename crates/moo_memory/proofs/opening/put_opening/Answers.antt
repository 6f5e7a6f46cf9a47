use Rattle.moo_memory.proofs.Words.{ap, ◌∙◌, pos, insert, ObjNo, Maps, Held}
use Rattle.moo_memory.proofs.opening.put_opening.Goals as goal
use Rattle.moo_rows.{specs.Maps.{Base}, specs.declared.row.Head.{Head}, specs.declared.row.ObjRow.{ObjRow}, specs.Opening.{system_object, root_class, first_room, wizard}}

abbrev of : Held → Maps
of h = h.maps

abbrev head_of : Maps → Head
head_of t = t.head

abbrev put_on : ObjNo → ObjRow → Maps → Maps
put_on key row t = record t { objects = insert t.objects key row }

abbrev with_head : Head → Maps → Maps
with_head head t = record t { head = head }

pub returns-clause-maps : goal.returns-clause-maps
returns-clause-maps g c none =
    let e0 = ap of c.set_head.ensures ∙ (λ i. with_head (record ((c.head-head.ensures ∙ ap head_of none) i) { top = pos 3 }) (none i)) in
    let e1 = ap of (c.in_ok-put_row.ensures system_object c.plain-system_object.ensures) ∙ ap (put_on (record { 0 = pos 0 }) system_object) e0 in
    let e2 = ap of (c.in_ok-put_row-2.ensures root_class c.root_class.ensures) ∙ ap (put_on (record { 0 = pos 1 }) root_class) e1 in
    let e3 = ap of (c.in_ok-put_row-3.ensures first_room c.first_room.ensures) ∙ ap (put_on (record { 0 = pos 2 }) first_room) e2 in
    ap of (c.in_ok-put_row-4.ensures wizard c.wizard.ensures) ∙ ap (put_on (record { 0 = pos 3 }) wizard) e3

abbrev base_of : Held → Base
base_of h = h.base

pub returns-clause-base : goal.returns-clause-base
returns-clause-base g c =
    ap base_of (c.in_ok-put_row-4.ensures wizard c.wizard.ensures) ∙ ap base_of (c.in_ok-put_row-3.ensures first_room c.first_room.ensures)
    ∙ ap base_of (c.in_ok-put_row-2.ensures root_class c.root_class.ensures) ∙ ap base_of (c.in_ok-put_row.ensures system_object c.plain-system_object.ensures)
    ∙ ap base_of c.set_head.ensures
