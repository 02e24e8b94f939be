use Rattle.std.proofs.Common.{rules, ◌≡◌, ◌∙◌, sym, inl}
use Rattle.std.proofs.lemmas.Result.{on_ok_weaker}
use Rattle.play.proofs.engine.handing.hand_to.Goals as goal

pub hand_key-requires : goal.hand_key-requires
hand_key-requires g c =
    let same : c.bytes.result.now ≡ c.args.name.now = search rules in
    record { new = c.requires.may (sym (c.bytes.ensures.value ∙ c.name.ensures) ∙ same) }

pub returns : goal.returns
returns g c promised spelled =
    let same : c.bytes.result.now ≡ c.args.name.now = search rules in
    on_ok_weaker c.hand_key.result (λ is. inl (sym (c.bytes.ensures.value ∙ c.name.ensures) ∙ same, is)) (c.hand_key.ensures promised spelled)
