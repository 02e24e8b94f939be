-- Counts of digests, which stay at their greatest value.
use Rattle.std.proofs.Common.{◌≡◌, ℕ, zero, suc, ◌+◌, ◌-◌, ◌^◌, ◌<◌, ◌≤◌, min, ap, ◌∙◌, sym, arith, add-zero}
use Rattle.nodehash.specs.Digests.{after_digests, one_more}

pub after_digests-is : (n count : ℕ) → count < 2 ^ 64 → after_digests n count ≡ min (count + n) (2 ^ 64 - 1)
after_digests-is zero count lt = omega arith
after_digests-is (suc n) count lt = omega (arith, after_digests-is n count lt)

pub after_digests-most : (n count : ℕ) → after_digests n count ≤ count + n
after_digests-most zero count = omega arith
after_digests-most (suc n) count = omega (arith, after_digests-most n count)

-- n digests after m
pub after_digests-join : (m n count : ℕ) → after_digests n (after_digests m count) ≡ after_digests (m + n) count
after_digests-join m zero count = ap (λ (k : ℕ). after_digests k count) (sym (add-zero m))
after_digests-join m (suc n) count =
    let more : suc (m + n) ≡ m + suc n = omega arith in
    ap one_more (after_digests-join m n count) ∙ ap (λ (k : ℕ). after_digests k count) more
