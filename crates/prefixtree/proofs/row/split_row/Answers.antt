use Rattle.std.proofs.Common.{◌≡◌, ◌+◌, ◌++◌, List, [], ◌∷◌, drop, arith, sym, ap, subst, ◌∙◌}
use Rattle.std.proofs.lemmas.List.{append-nil, append_assoc, drop_all, drop_more}
use Rattle.prefixtree.specs.declared.row.Place.{Place}
use Rattle.prefixtree.specs.Rows.{AreSplit, Outcomes}
use Rattle.prefixtree.proofs.row.split_row.Goals as goal

pub loop-place-preserved : goal.loop-place-preserved
loop-place-preserved c =
    let changes = c.args.changes.now in
    let level = c.args.level in
    let i = c.loop-place.place-index in
    let place = c.place-item.result in
    let inv = c.loop-place.invariant in
    let from : drop i c.args.places.now ≡ place ∷ drop (i + 1) c.args.places.now =
    drop_more c.args.places.now i place (omega arith) ∙ ap (λ (p : Place). p ∷ drop (i + 1) c.args.places.now) (sym c.place-item.is) in
    let split = c.in_ok-outcome.ensures in
    let lower = split.1 in
    record {
      left = (inv.left.0, inv.left.1, (rw from at inv.left.2).1);
      ends = λ of nonce are.
          let here = inv.ends of nonce are in
          let left = rw from at here.0 in (
            left.1,
            λ outcomes rest done.
                let more = here.1 (c.in_ok-outcome.outcome ∷ outcomes) (split.0 ++ rest) (rw from (split.2 of nonce (drop (i + 1) c.args.places.now) outcomes rest left.0 done)) in
                subst (λ (l : List Place). AreSplit of nonce changes level c.args.places.now (c.push.new.self.items ++ outcomes) l) (sym (append_assoc c.loop-place.lower.items split.0 rest) ∙ ap (λ (l : List Place). l ++ rest) (sym lower))
                (subst (λ (l : Outcomes). AreSplit of nonce changes level c.args.places.now l (c.loop-place.lower.items ++ (split.0 ++ rest)))
                (sym (append_assoc c.loop-place.outcomes.items (c.in_ok-outcome.outcome ∷ []) outcomes) ∙ ap (λ (l : Outcomes). l ++ outcomes) (sym c.in_ok-push.ensures.items)) more),
          );
    }

pub returns : goal.returns
returns c = λ of nonce are.
    let i = c.loop-place.place-index in
    let end : drop i c.args.places.now ≡ [] = drop_all i c.args.places.now (omega arith) in
    let done = (c.loop-place.invariant.ends of nonce are).1 [] [] (rw end tt) in
    rw (append-nil c.loop-place.outcomes.items, append-nil c.loop-place.lower.items) at done
