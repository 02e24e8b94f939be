use Rattle.std.proofs.Common.{◌∙◌, ◌∷◌, ◌++◌, [], ℕ, List, Option, ap, refl, rules, subst}
use Rattle.client.specs.declared.client_refusal.Refusal.{Refusal}
use Rattle.asking.specs.Stopping.{epochs_text, StopsAmong}
use Rattle.asking.proofs.Placed.{tells_all, tells_others, tells_stop}
use Rattle.asking.proofs.placing.place_all.Goals as goal

pub returns-in-Some : goal.returns-in-Some
returns-in-Some g c =
    tells_stop g.H.NodeHash.digest_of g.S.Verifier.verified c.args.client.now.chain c.args.wanted.now c.args.roots c.refuse_root.result c.in-Some.why c.args.said.now c.refuse_root.new.said
    (subst (λ (stop : Option Refusal). StopsAmong g.H.NodeHash.digest_of g.S.Verifier.verified c.args.client.now.chain c.args.roots stop) c.in-Some.is c.in_ok-why.ensures.stops) c.refuse_root.ensures

pub returns : goal.returns
returns g c =
    tells_all g.H.NodeHash.digest_of g.S.Verifier.verified c.args.client.now.chain c.args.wanted.now c.args.roots c.extend_from_slice.result c.deref.result.now c.args.said.now
    (record { text = c.extend_from_slice.new.self; words = c.args.said.now.words; status = c.args.said.now.status }) (search rules)
    (subst (λ (stop : Option Refusal). StopsAmong g.H.NodeHash.digest_of g.S.Verifier.verified c.args.client.now.chain c.args.roots stop) c.in-None.is c.in_ok-why.ensures.stops)
    (c.deref.ensures.value ∙ c.in_ok-push-in-None.ensures.items ∙ ap (λ (xs : List ℕ). xs ++ 10 ∷ [])
    (c.in_ok-why.ensures.text c.in-None.is ∙ ap (λ (xs : List ℕ). xs ++ epochs_text c.args.roots) c.in_ok-line.ensures.items))
    c.extend_from_slice.ensures.items refl

pub returns-then-not-are_wanted : goal.returns-then-not-are_wanted
returns-then-not-are_wanted g c =
    tells_others g.H.NodeHash.digest_of g.S.Verifier.verified c.args.client.now.chain c.args.wanted.now c.args.roots c.refuse_other.result c.args.said.now c.refuse_other.new.self (search rules)
    (subst (λ (stop : Option Refusal). StopsAmong g.H.NodeHash.digest_of g.S.Verifier.verified c.args.client.now.chain c.args.roots stop) c.in-None.is c.in_ok-why.ensures.stops) c.refuse_other.ensures
