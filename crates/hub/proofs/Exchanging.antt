-- One message more is answered.
use Rattle.std.proofs.Common.{◌≡◌, ◌≢◌, ℕ, List, [], ◌∷◌, ◌++◌, refl, sym, ap, subst, ◌∙◌, append_assoc}
use Rattle.std.proofs.lemmas.List.{append-nil}
use Rattle.wire.specs.Frames.{Frame}
use Rattle.wire.specs.Streams.{Remainder, Rest, Failed, Whole, BadFrame, TakesMessage, Fails}
use Rattle.hub.specs.Exchanges.{Exchange, Exchanges, Replies, replies}

pub replies-more : (xs : List Exchange) (x : Exchange) → replies (xs ++ x ∷ []) ≡ replies xs ++ x.reply
replies-more [] x = append-nil x.reply
replies-more (y ∷ xs) x = ap (λ (t : List ℕ). y.reply ++ t) (replies-more xs x) ∙ sym (append_assoc y.reply (replies xs) x.reply)

module _ {S : Type 0} (answers : S → Frame → List ℕ → S → Type 0) where
  pub exchanged : (s : S) (h : Remainder) (xs : List Exchange) (middle : S) (between : Remainder) (x : Exchange) (after : S) (left : Remainder)
      → Exchanges answers s h xs middle between → TakesMessage between x.message left → Replies answers middle x.message x.reply after → Exchanges answers s h (xs ++ x ∷ []) after left
  exchanged s h [] middle between x after left (same, held) taken replied =
      (after, left, subst (λ (t : Remainder). TakesMessage t x.message left) held taken, subst (λ (t : S). Replies answers t x.message x.reply after) same replied, (refl, refl))
  exchanged s h (y ∷ xs) middle between x after left (one, next, took, said, rest) taken replied =
      (one, next, took, said, exchanged one next xs middle between x after left rest taken replied)

module _ {S : Type 0} (answers : S → Frame → List ℕ → S → Type 0) where
  -- one message more, taken, answered and written
  pub exchanged_more : (s : S) (h : Remainder) (start before after : List ℕ) (middle : S) (between : Remainder) (x : Exchange) (last : S) (left : Remainder)
      → ((xs : List Exchange) × Exchanges answers s h xs middle between × (before ≡ start ++ replies xs))
      → TakesMessage between x.message left → Replies answers middle x.message x.reply last → after ≡ before ++ x.reply
      → (xs : List Exchange) × Exchanges answers s h xs last left × (after ≡ start ++ replies xs)
  exchanged_more s h start before after middle between x last left (xs, before_it, wrote) taken replied writes = (
    xs ++ x ∷ [],
    exchanged answers s h xs middle between x last left before_it taken replied,
    writes ∙ ap (λ (t : List ℕ). t ++ x.reply) wrote ∙ append_assoc start (replies xs) x.reply ∙ ap (λ (t : List ℕ). start ++ t) (sym (replies-more xs x)),
  )

-- a session that takes a frame has not failed, and one that failed tells so
pub has_not_failed : (h : Remainder) (frame : Frame) (left : Remainder) → TakesMessage h (Whole frame) left → left ≢ Failed
has_not_failed (Rest bytes) frame left (rest, e, same) failed = absurd (let wrong : Rest rest ≡ Failed = sym same ∙ failed in cc)
has_not_failed Failed frame left t failed = t

pub takes_bad_length : (h left : Remainder) → h ≢ Failed → Fails h → left ≡ Failed → TakesMessage h BadFrame left
takes_bad_length (Rest bytes) left fine e same = (e, same)
takes_bad_length Failed left fine e same = absurd (fine refl)
