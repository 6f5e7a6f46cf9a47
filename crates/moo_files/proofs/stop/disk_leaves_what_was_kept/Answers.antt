use Rattle.std.proofs.Common.{inl, refl}
use Rattle.moo_store.{specs.Moment.{Moment, AreTreesOf, IsSparedMoment}, specs.States.{LeavesState}}
use Rattle.moo_files.{specs.Contents.{HoldsSuch, IsKept}, proofs.StopLemmas.{such_by_bytes, state_is_database, spared_are_databases}}
use Rattle.moo_files.proofs.stop.disk_leaves_what_was_kept.Goals as goal

pub returns : goal.returns
returns g c = record {
  state = λ s image rest next clean numbered holds keeps lies. such_by_bytes (λ trees. LeavesState trees s) image rest next (state_is_database s) clean numbered holds keeps lies;
  trees = λ trees image rest next clean numbered holds sound keeps lies.
      such_by_bytes (IsKept trees) image rest next sound clean numbered (record { trees = trees; holds = holds; such = inl refl }) keeps lies;
  moment = λ m image rest next clean numbered holds keeps lies.
      let held : HoldsSuch (λ trees. (end : Moment) × IsSparedMoment m end × AreTreesOf end trees) image = record { trees = holds.trees; holds = holds.holds; such = (m, inl refl, holds.such) } in
      let it = such_by_bytes (λ trees. (end : Moment) × IsSparedMoment m end × AreTreesOf end trees) image rest next (spared_are_databases m) clean numbered held keeps lies in
      (it.such.0, it.such.1, record { trees = it.trees; holds = it.holds; such = it.such.2 });
}
