use Rattle.std.proofs.Common.{◌≡◌, ℕ, List, [], ◌∷◌, Ok, Err, ap, option_copied, refl, rules, subst}
use Rattle.rootchain.specs.Chains.{KeyedRoots}
use Rattle.rootchain.specs.Places.{IsNextAfter}
use Rattle.rootchain.specs.RootLists.{root_list_bytes}
use Rattle.client.specs.Clients.{Client}
use Rattle.client.specs.Updating.{Updates}
use Rattle.asking.proofs.joining.retrace_one.Goals as goal

pub returns-in-Ok-clause-ok : goal.returns-in-Ok-clause-ok
returns-in-Ok-clause-ok g c =
    let next = subst (λ (chain : KeyedRoots). IsNextAfter chain c.args.epoch c.in-Some.root.now) c.chain.ensures.value ((c.after.ensures.next c.in-Some.root.now).0 (ap option_copied c.in-Some.is)) in
    let list : c.deref.result.now ≡ root_list_bytes (c.in-Some.root.now ∷ []) = search rules in
    let updates = rw c.in-Ok.is at c.update.ensures.updates in
    (c.in-Some.root.now, next, refl, subst (λ (bytes : List ℕ). Updates g.H.NodeHash.digest_of g.S.Verifier.verified c.args.own.now bytes {A = Unit {0}} (Ok tt) c.update.new.self) list updates)

pub returns-clause-err : goal.returns-clause-err
returns-clause-err g c =
    let next = subst (λ (chain : KeyedRoots). IsNextAfter chain c.args.epoch c.in-Some.root.now) c.chain.ensures.value ((c.after.ensures.next c.in-Some.root.now).0 (ap option_copied c.in-Some.is)) in
    let list : c.deref.result.now ≡ root_list_bytes (c.in-Some.root.now ∷ []) = search rules in
    let updates = rw c.in-Err.is at c.update.ensures.updates in
    let here = subst (λ (bytes : List ℕ). Updates g.H.NodeHash.digest_of g.S.Verifier.verified c.args.own.now bytes {A = Unit {0}} (Err c.in-Err.why) c.update.new.self) list updates in
    λ known. (
      c.in-Some.root.now,
      next,
      subst (λ (after : Client). Updates g.H.NodeHash.digest_of g.S.Verifier.verified c.args.own.now (root_list_bytes (c.in-Some.root.now ∷ [])) {A = Unit {0}} (Err c.in-Err.why) after) here.0 here,
    )
