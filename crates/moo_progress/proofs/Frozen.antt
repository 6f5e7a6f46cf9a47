-- What stays on a frozen disk stays on one that passes calls on to it.
use Rattle.std.specs.Prelude.{ℕ, Bool, List}
use Rattle.sqlite_disk.specs.Disk.{StaysFrozen}

pub frozen_through : {D E : Type 0} {seen : D → List ℕ} {may_leave : D → List ℕ → Type 0} {is_clean is_frozen : D → Bool} {old new : E}
    (inner : E → D)
    → StaysFrozen seen may_leave is_clean is_frozen (inner old) (inner new)
    → StaysFrozen (λ t. seen (inner t)) (λ t. may_leave (inner t)) (λ t. is_clean (inner t)) (λ t. is_frozen (inner t)) old new
frozen_through inner stays = record {
  frozen = stays.frozen;
  same = stays.same;
  clean = stays.clean;
  no_more = stays.no_more;
  no_fewer = stays.no_fewer;
}
