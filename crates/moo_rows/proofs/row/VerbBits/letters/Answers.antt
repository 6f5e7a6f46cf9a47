use Rattle.moo_rows.{proofs.Words.{arith, ◌≡◌, Bool, Some, ap, ◌∙◌}, specs.Bits.{verb_bits_of, verb_letters_of}}
use Rattle.moo_rows.proofs.row.VerbBits.letters.Goals as goal
use Rattle.std.proofs.Common.{rules}

-- the letters of rights are read as these rights
read_back : (r w x d : Bool) → verb_bits_of (verb_letters_of (record { r = r; w = w; x = x; d = d })) ≡ Some (record { r = r; w = w; x = x; d = d })
read_back r w x d = grind arith

pub returns-clause-letters : goal.returns-clause-letters
returns-clause-letters c = search rules

pub returns-clause-read_again : goal.returns-clause-read_again
returns-clause-read_again c = ap verb_bits_of (returns-clause-letters c) ∙ read_back c.args.self.r c.args.self.w c.args.self.x c.args.self.d
