use Rattle.moo_rows.{proofs.Words.{arith, ◌≡◌, Bool, Some, ap, ◌∙◌}, specs.Bits.{bits_of, letters_of}}
use Rattle.moo_rows.proofs.row.Bits.letters.Goals as goal
use Rattle.std.proofs.Common.{rules}

-- the letters of rights are read as these rights
read_back : (r w c : Bool) → bits_of (letters_of (record { r = r; w = w; c = c })) ≡ Some (record { r = r; w = w; c = c })
read_back r w c = grind arith

pub returns-clause-letters : goal.returns-clause-letters
returns-clause-letters c = search rules

pub returns-clause-read_again : goal.returns-clause-read_again
returns-clause-read_again c = ap bits_of (returns-clause-letters c) ∙ read_back c.args.self.r c.args.self.w c.args.self.c
