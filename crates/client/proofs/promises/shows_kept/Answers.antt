use Rattle.std.proofs.Common.{◌≡◌, ap, option_copied}
use Rattle.client.proofs.ShownKept.{none-next, parts-of, shown-by, unread}
use Rattle.client.proofs.promises.shows_kept.Goals as goal

pub returns-in_default-clause-shows : goal.returns-in_default-clause-shows
returns-in_default-clause-shows g c = (
  λ never. absurd cc,
  λ shown. absurd (none-next g.H.NodeHash.digest_of c.args.chain.now c.args.signed.now c.args.bytes.now (option_copied c.after.result) c.after.ensures.next (ap option_copied c.in_default.is) shown),
)

pub returns-then-is_under-clause-shows : goal.returns-then-is_under-clause-shows
returns-then-is_under-clause-shows g c =
    let body : c.in-Ok.view.body ≡ c.in-Some.root.now.body = c.is_under.ensures.0 c.if-is_under.true in (
      λ yes.
          let states = c.states_kept.ensures.states.0 yes in
          shown-by g.H.NodeHash.digest_of c.args.chain.now c.args.signed.now c.args.bytes.now (option_copied c.after.result) c.after.ensures.next c.in-Some.root.now (ap option_copied c.in-Some.is) c.in-Ok.view c.in-Ok.ensures.exact
          body states.0 states.1,
      λ shown. c.states_kept.ensures.states.1
          (parts-of g.H.NodeHash.digest_of c.args.chain.now c.args.signed.now c.args.bytes.now (option_copied c.after.result) c.after.ensures.next c.in-Some.root.now (ap option_copied c.in-Some.is) c.in-Ok.view c.in-Ok.ensures.exact shown).1,
    )

pub returns-else-is_under-clause-shows : goal.returns-else-is_under-clause-shows
returns-else-is_under-clause-shows g c = (
  λ yes. absurd cc,
  λ shown.
      let body : c.in-Ok.view.body ≡ c.in-Some.root.now.body =
      (parts-of g.H.NodeHash.digest_of c.args.chain.now c.args.signed.now c.args.bytes.now (option_copied c.after.result) c.after.ensures.next c.in-Some.root.now (ap option_copied c.in-Some.is) c.in-Ok.view c.in-Ok.ensures.exact shown).0 in
      c.is_under.ensures.1 body,
)

pub returns-in-Err-clause-shows : goal.returns-in-Err-clause-shows
returns-in-Err-clause-shows g c = (
  λ never. absurd cc,
  λ shown. absurd (unread g.H.NodeHash.digest_of c.args.chain.now c.args.signed.now c.args.bytes.now c.in-Err.field-0 c.in-Err.ensures.exact shown),
)
