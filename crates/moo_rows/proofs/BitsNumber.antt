-- Rights of one number are one.
use Rattle.moo_rows.{proofs.Words.{arith, ◌≡◌, ℤ, pos, negsuc, Bool, false, sym, ap, ◌∙◌, nat_le, ◌==◌, ◌||◌}, specs.Bits.{bits_number}, specs.declared.row.Bits.{Bits}}

abbrev rights : Bool → Bool → Bool → Bits
rights r w c = record { r = r; w = w; c = c }

-- the rights whose number it is
abbrev of_number : ℤ → Bits
of_number (pos n) = rights (nat_le 4 n) ((n == 2) || (n == 3) || (n == 6) || (n == 7)) ((n == 1) || (n == 3) || (n == 5) || (n == 7))
of_number (negsuc n) = rights false false false

back : (r w c : Bool) → of_number (bits_number (rights r w c)) ≡ rights r w c
back r w c = grind arith

pub bits_number-injective : (a b : Bits) → bits_number a ≡ bits_number b → a ≡ b
bits_number-injective a b same = sym (back a.r a.w a.c) ∙ (ap of_number same ∙ back b.r b.w b.c)
