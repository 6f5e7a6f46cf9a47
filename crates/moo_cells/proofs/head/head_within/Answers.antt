use Rattle.moo_cells.proofs.Words.{◌≡◌, ℤ, pos, negsuc, ◌≤ℤ◌, sym, subst, ◌∙◌, w32, w64, to_z, of_z, to_z-of_z}
use Rattle.moo_cells.proofs.head.head_within.Goals as goal

pub returns-clause-some : goal.returns-clause-some
returns-clause-some c =
    let kept : to_z w32 (of_z w32 c.in_ok-top.top) ≡ c.in_ok-top.top = to_z-of_z w32 c.in_ok-top.top c.in_ok-top.ensures.fits in
    record {
      seq = sym (to_z-of_z w64 c.args.numbers.seq c.requires.seq) ∙ c.in_ok-seq.ensures.some;
      top = sym (to_z-of_z w64 c.args.numbers.top c.requires.top) ∙ c.in_ok-top.ensures.some ∙ sym kept;
      next_prop = sym (to_z-of_z w64 c.args.numbers.next_prop c.requires.next_prop) ∙ c.in_ok-next_prop.ensures.some;
      next_verb = sym (to_z-of_z w64 c.args.numbers.next_verb c.requires.next_verb) ∙ c.in_ok-next_verb.ensures.some;
      fits = record {
        top = subst (λ (z : ℤ). (negsuc 0 ≤ℤ z) × (z ≤ℤ pos 2147483647)) (sym kept) c.in_ok-top.ensures.within;
        next_prop = c.in_ok-next_prop.ensures.within;
        next_verb = c.in_ok-next_verb.ensures.within;
      };
    }
