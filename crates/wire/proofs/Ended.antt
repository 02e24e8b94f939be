-- A frame whose length is written once its body is there.
use Rattle.std.proofs.Common.{◌≡◌, ℕ, ◌+◌, List, [], ◌∷◌, ◌++◌, length, take, drop, sym, ap, ◌∙◌, append_assoc, length-append}
use Rattle.std.proofs.Math.Seq.{take-append_seam, drop-append_seam}

pub front-stays : (before size body : List ℕ) (kind start : ℕ) → length before ≡ start → take start ((before ++ (size ++ kind ∷ [])) ++ body) ≡ before
front-stays before size body kind start at =
    ap (λ (n : ℕ). take n ((before ++ (size ++ kind ∷ [])) ++ body)) (sym at)
    ∙ ap (take (length before)) (append_assoc before (size ++ kind ∷ []) body)
    ∙ take-append_seam before ((size ++ kind ∷ []) ++ body)

pub body-stays : (before size body : List ℕ) (kind start : ℕ) → length before ≡ start → length size ≡ 4 → drop (start + 4) ((before ++ (size ++ kind ∷ [])) ++ body) ≡ kind ∷ body
body-stays before size body kind start at four =
    let long : start + 4 ≡ length (before ++ size) = sym (length-append before size ∙ ap (λ (n : ℕ). n + length size) at ∙ ap (λ (n : ℕ). start + n) four) in
    ap (λ (n : ℕ). drop n ((before ++ (size ++ kind ∷ [])) ++ body)) long
    ∙ ap (drop (length (before ++ size)))
    (append_assoc before (size ++ kind ∷ []) body ∙ ap (λ (rest : List ℕ). before ++ rest) (append_assoc size (kind ∷ []) body) ∙ sym (append_assoc before size (kind ∷ body)))
    ∙ drop-append_seam (before ++ size) (kind ∷ body)
