use Rattle.std.proofs.Common.{◌≡◌, ℕ, ◌∙◌, ap, sym, length, arith}
use Rattle.std.proofs.lemmas.List.{length-map}
use Rattle.std.proofs.lemmas.Result.{IfOk-weaker}
use Rattle.nodehash.specs.Digests.{after_digests}
use Rattle.prefixtree.specs.Rows.{row_digests}
use Rattle.prefixtree.proofs.RowsMade.{length-texts}
use Rattle.prefixtree.proofs.row.make_row.Goals as goal

pub returns-in_err-digests-clause-work : goal.returns-in_err-digests-clause-work
returns-in_err-digests-clause-work g c =
    let texts : length c.deref-3.result.now ≡ row_digests c.args.outcomes.items =
    ap length (c.deref-3.ensures.value ∙ c.in_ok-texts.ensures) ∙ length-texts c.args.nonce.now c.args.level c.args.places.now c.deref.result.now _ (c.requires.places ∙ ap length (sym c.deref.ensures.value)) ∙ ap row_digests c.deref.ensures.value in
    omega (arith, c.digests_of_texts.ensures.work, texts)

pub join_row-requires-clause-digests : goal.join_row-requires-clause-digests
join_row-requires-clause-digests g c =
    ap length (c.deref-4.ensures.value ∙ c.in_ok-digests.ensures.digests) ∙ length-map c.deref-3.result.now g.H.NodeHash.digest_of
    ∙ ap length (c.deref-3.ensures.value ∙ c.in_ok-texts.ensures) ∙ length-texts c.args.nonce.now c.args.level c.args.places.now c.deref.result.now _ (c.requires.places ∙ ap length (sym c.deref.ensures.value)) ∙ ap row_digests c.deref.ensures.value

pub returns-clause-work : goal.returns-clause-work
returns-clause-work g c =
    let texts : length c.deref-3.result.now ≡ row_digests c.args.outcomes.items =
    ap length (c.deref-3.ensures.value ∙ c.in_ok-texts.ensures) ∙ length-texts c.args.nonce.now c.args.level c.args.places.now c.deref.result.now _ (c.requires.places ∙ ap length (sym c.deref.ensures.value)) ∙ ap row_digests c.deref.ensures.value in
    omega (arith, c.digests_of_texts.ensures.work, texts)

pub returns-clause-exact : goal.returns-clause-exact
returns-clause-exact g c =
    let texts : length c.deref-3.result.now ≡ row_digests c.args.outcomes.items =
    ap length (c.deref-3.ensures.value ∙ c.in_ok-texts.ensures) ∙ length-texts c.args.nonce.now c.args.level c.args.places.now c.deref.result.now _ (c.requires.places ∙ ap length (sym c.deref.ensures.value)) ∙ ap row_digests c.deref.ensures.value in
    IfOk-weaker c.join_row.result _ _ (λ _ _. c.in_ok-digests.ensures.exact ∙ ap (λ (n : ℕ). after_digests n (g.H.NodeHash.digests c.args.hash.now)) texts) c.join_row.ensures
