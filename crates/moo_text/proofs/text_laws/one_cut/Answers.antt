use Rattle.std.specs.Str.Lines.{lines}
use Rattle.moo_text.proofs.Cutting.{is_cut, cut_read}
use Rattle.moo_text.proofs.text_laws.one_cut.Goals as goal

pub returns : goal.returns
returns c = record { cut = λ text. is_cut (lines text); only = λ text others cut. cut_read (lines text) others cut }
