-- Where a stream is cut does not matter to what is answered.
use Rattle.std.proofs.Common.{◌≡◌, ℕ, List, [], ◌∷◌, ◌++◌, refl, sym, ap, subst, ◌∙◌, append_assoc}
use Rattle.wire.specs.Frames.{Frame}
use Rattle.wire.specs.Streams.{Remainder, with_more}
use Rattle.wire.proofs.Streams.{takes-more, with_more-append}
use Rattle.hub.specs.Exchanges.{Exchange, Exchanges, replies}

pub replies_append : (xs ys : List Exchange) → replies (xs ++ ys) ≡ replies xs ++ replies ys
replies_append [] ys = refl
replies_append (x ∷ xs) ys = ap (λ (t : List ℕ). x.reply ++ t) (replies_append xs ys) ∙ sym (append_assoc x.reply (replies xs) (replies ys))

module _ {S : Type 0} (answers : S → Frame → List ℕ → S → Type 0) where
  -- what is answered is answered also where more follows
  exchanges_more : (s : S) (h : Remainder) (xs : List Exchange) (t : S) (left : Remainder) (more : List ℕ) → Exchanges answers s h xs t left
      → Exchanges answers s (with_more h more) xs t (with_more left more)
  exchanges_more s h [] t left more (same, held) = (same, ap (λ (x : Remainder). with_more x more) held)
  exchanges_more s h (x ∷ xs) t left more (middle, between, takes, replied, rest) =
      (middle, with_more between more, takes-more h x.message between more takes, replied, exchanges_more middle between xs t left more rest)

  exchanges_append : (s : S) (h : Remainder) (xs : List Exchange) (t : S) (between : Remainder) (ys : List Exchange) (u : S) (left : Remainder)
      → Exchanges answers s h xs t between → Exchanges answers t between ys u left → Exchanges answers s h (xs ++ ys) u left
  exchanges_append s h [] t between ys u left (same, held) later =
      subst (λ (x : Remainder). Exchanges answers s x ys u left) held (subst (λ (x : S). Exchanges answers x between ys u left) same later)
  exchanges_append s h (x ∷ xs) t between ys u left (middle, next, takes, replied, rest) later =
      (middle, next, takes, replied, exchanges_append middle next xs t between ys u left rest later)

  -- a piece and then another are answered as both at once
  pub exchanges_joined : (s : S) (h : Remainder) (p q : List ℕ) (xs ys : List Exchange) (t u : S) (between left : Remainder)
      → Exchanges answers s (with_more h p) xs t between → Exchanges answers t (with_more between q) ys u left
      → Exchanges answers s (with_more h (p ++ q)) (xs ++ ys) u left
  exchanges_joined s h p q xs ys t u between left one two =
      subst (λ (x : Remainder). Exchanges answers s x (xs ++ ys) u left) (with_more-append h p q)
      (exchanges_append s (with_more (with_more h p) q) xs t (with_more between q) ys u left (exchanges_more s (with_more h p) xs t between q one) two)
