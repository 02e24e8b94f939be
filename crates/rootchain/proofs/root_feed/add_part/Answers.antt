use Rattle.std.proofs.Common.{rules, arith, ◌≡◌, ◌+◌, ◌<◌, ◌≤◌, ◌∙◌, ◌++◌, ◌∷◌, [], ℕ, List, length, slice_index_or, refl, ap}
use Rattle.rootchain.specs.FeedViews.{held_of}
use Rattle.rootchain.specs.RootFeeds.{least_len}
use Rattle.rootchain.proofs.RootFeeds.{part-is-held}
use Rattle.rootchain.proofs.root_feed.add_part.Goals as goal

-- a piece of one byte
one-byte : (piece : List ℕ) → 1 ≤ length piece → length piece < 2 → slice_index_or piece 0 0 ∷ [] ≡ piece
one-byte [] some few = absurd (omega (arith, some))
one-byte (byte ∷ []) some few = refl
one-byte (byte ∷ next ∷ rest) some few = absurd (omega (arith, few))

pub returns-in-len1-clause-part : goal.returns-in-len1-clause-part
returns-in-len1-clause-part c =
    let short : length c.args.held.now + length c.args.piece.now < least_len (held_of c.args.stage c.args.held.now) = search rules in
    let t = part-is-held c.args.stage c.args.held.now c.args.piece.now c.requires short in
    let held : c.push.new.self ≡ c.args.held.now ++ c.args.piece.now = c.push.ensures.value ∙ ap (λ (z : List ℕ). c.args.held.now ++ z) (one-byte c.args.piece.now c.in-len1.len_at_least c.in-len1.len_below) in
    rw held (t.0, t.1)

pub returns-in-len1-clause-held : goal.returns-in-len1-clause-held
returns-in-len1-clause-held c =
    let short : length c.args.held.now + length c.args.piece.now < least_len (held_of c.args.stage c.args.held.now) = search rules in
    let held : c.push.new.self ≡ c.args.held.now ++ c.args.piece.now = c.push.ensures.value ∙ ap (λ (z : List ℕ). c.args.held.now ++ z) (one-byte c.args.piece.now c.in-len1.len_at_least c.in-len1.len_below) in
    rw held (part-is-held c.args.stage c.args.held.now c.args.piece.now c.requires short).2

pub returns-in_default-clause-part : goal.returns-in_default-clause-part
returns-in_default-clause-part c =
    let short : length c.args.held.now + length c.args.piece.now < least_len (held_of c.args.stage c.args.held.now) = search rules in
    let t = part-is-held c.args.stage c.args.held.now c.args.piece.now c.requires short in
    rw c.push_slice.ensures.value (t.0, t.1)

pub returns-in_default-clause-held : goal.returns-in_default-clause-held
returns-in_default-clause-held c =
    let short : length c.args.held.now + length c.args.piece.now < least_len (held_of c.args.stage c.args.held.now) = search rules in
    rw c.push_slice.ensures.value (part-is-held c.args.stage c.args.held.now c.args.piece.now c.requires short).2
