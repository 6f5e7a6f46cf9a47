use Rattle.moo_load.proofs.Words.{◌≡◌, true, map, take, list_all, Obj, is_number}
use Rattle.moo_load.proofs.value.objects_of.Given as goal

abbrev pub invariant-loop-value : goal.invariant-loop-value
invariant-loop-value l = record {
  read : take l.value-index l.values ≡ map Obj l.objects.items;
  fits : list_all is_number l.objects.items ≡ true;
}
