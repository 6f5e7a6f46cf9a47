-- Files as they were opened.
use Rattle.std.specs.Prelude.{◌≡◌}
use Rattle.sqlite_disk.specs.declared.Disk as disk
use Rattle.sqlite_disk.specs.declared.Files.{Files}
use Rattle.sqlite_disk.specs.declared.start.Start as start
use Rattle.sqlite_wal.specs.{Recovery.{Image}, Files.{image_at, outcomes}, Reads.{AreClean}}
use Rattle.sqlite.specs.Files.{faults_of, image_of}

-- The two files hold what a start says of them, and so does what a crash leaves of them. Their disk is clean, and no call on them failed.
pub record HoldStart {T D : Type 0} (first : start.Ghosts T) (g : disk.Ghosts D) (files : Files D) : Type 0 where
  pub seen : image_of g files ≡ image_at first
  pub left : (image : Image) → outcomes g files.log files.db image → image ≡ image_at first
  pub clean : AreClean g files.log files.db
  pub calm : faults_of g files ≡ 0
