-- What a disk that tells of reading shows.
use Rattle.moo_progress.specs.declared.telling.Telling.{Telling}

-- the disk to which a disk that tells of reading passes its calls on
abbrev pub inner_of : {D C : Type 0} → Telling D C → D
inner_of t = t.inner
