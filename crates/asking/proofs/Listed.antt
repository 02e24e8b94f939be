-- Lists of roots that were asked for.
use Rattle.std.proofs.Common.{◌≡◌, ◌≢◌, ◌∙◌, ℕ, ◌+◌, ◌<◌, ◌≤◌, arith, true, false, List, Some, None, ap, codes, refl, subst, sym, inl, inr}
use Rattle.rootchain.specs.Chains.{IsHead}
use Rattle.rootchain.specs.declared.root_list.TheConstants.{MAX_ROOTS}
use Rattle.rootchain.specs.declared.signed_root.SignedRoot.{SignedRoot}
use Rattle.commands.specs.Operations.{History}
use Rattle.wire.specs.Frames.{Frame}
use Rattle.wire.specs.Requests.{RequestContent, Query}
use Rattle.asking.specs.declared.asker.Asker.{Asker}
use Rattle.asking.specs.declared.said.Said.{Said}
use Rattle.asking.specs.Following.{AllUpdate, AnyRefuses, AsksRoots, StopsFollowing, BringsNone, StopsList, TakesList, TellsRootRefusal, no_roots}
use Rattle.asking.specs.Refused.{client_refuses, other_reply}
use Rattle.asking.specs.Scenes.{FrameAnswers, GivesBody, scene}
use Rattle.asking.specs.Reports.{Report, Tells, report_of}
use Rattle.asking.proofs.Going.{told_onto}

module _ {H V S T : Type 0} (hash : List ℕ → List ℕ) (verified : List ℕ → List ℕ → List ℕ → Type 0) (exchanged : T → RequestContent → Frame → T → Type 0) where
  module _ (asker : Asker H V S) (said : Said) (stream : T) (head : SignedRoot) (from : ℕ) (frame : Frame) (later : T) where
    asks-list : IsHead asker.client.chain head → from ≡ head.body.epoch + 1 → exchanged stream (Query (History from MAX_ROOTS)) frame later
        → FrameAnswers (Query (History from MAX_ROOTS)) frame → AsksRoots hash verified exchanged (scene asker said stream) frame later
    asks-list is from_is exchange answered = record {
      head = head;
      is = is;
      exchange = subst (λ (n : ℕ). exchanged stream (Query (History n MAX_ROOTS)) frame later) from_is exchange;
      answered = subst (λ (n : ℕ). FrameAnswers (Query (History n MAX_ROOTS)) frame) from_is answered;
    }

    -- a list of no root came
    pub takes_none : (said' : Said) (body : List ℕ) → IsHead asker.client.chain head → from ≡ head.body.epoch + 1 → exchanged stream (Query (History from MAX_ROOTS)) frame later
        → GivesBody (Query (History from MAX_ROOTS)) frame said (Some body) said' → body ≡ no_roots → TakesList hash verified exchanged (scene asker said stream) false (scene asker said' later)
    takes_none said' body is from_is exchange (answered, same, silent) empty = inr (
      frame,
      later,
      asks-list is from_is exchange answered,
      sym same ∙ empty,
      ap (λ (s : Said). scene asker s later) silent,
    )

    -- a list came, and was taken
    pub takes_some : (asker' : Asker H V S) (said' said'' : Said) (body : List ℕ) → IsHead asker.client.chain head → from ≡ head.body.epoch + 1
        → exchanged stream (Query (History from MAX_ROOTS)) frame later → GivesBody (Query (History from MAX_ROOTS)) frame said (Some body) said'
        → AllUpdate hash verified body asker.client asker.monitors.items asker'.client asker'.monitors.items → said'' ≡ said' → asker'.finals ≡ asker.finals
        → (latest : SignedRoot) → IsHead asker'.client.chain latest → from ≤ latest.body.epoch
        → TakesList hash verified exchanged (scene asker said stream) true (scene asker' said'' later)
    takes_some asker' said' said'' body is from_is exchange (answered, same, silent) updates still finals latest now high = (
      frame,
      asks-list is from_is exchange answered,
      subst (λ (list : List ℕ). AllUpdate hash verified list asker.client asker.monitors.items asker'.client asker'.monitors.items) same updates,
      ap report_of (still ∙ silent),
      (head, latest, is, now, omega (arith, from_is, high)),
      finals,
    )

    stops-list : (last : Asker H V S) (told : Report) (after : Said) → IsHead asker.client.chain head → from ≡ head.body.epoch + 1 → exchanged stream (Query (History from MAX_ROOTS)) frame later
        → StopsFollowing hash verified (Query (History from MAX_ROOTS)) asker.client asker.monitors.items frame told last.client last.monitors.items → Tells said told after → last.finals ≡ asker.finals
        → StopsList hash verified exchanged (scene asker said stream) (scene last after later)
    stops-list last told after is from_is exchange stopped tells finals = (
      head,
      is,
      frame,
      subst (λ (n : ℕ). exchanged stream (Query (History n MAX_ROOTS)) frame later) from_is exchange,
      told,
      subst (λ (n : ℕ). StopsFollowing hash verified (Query (History n MAX_ROOTS)) asker.client asker.monitors.items frame told last.client last.monitors.items) from_is stopped,
      told_onto said after told tells,
      finals,
    )

    -- no answer came
    pub stops_unanswered : (said' : Said) → IsHead asker.client.chain head → from ≡ head.body.epoch + 1 → exchanged stream (Query (History from MAX_ROOTS)) frame later
        → GivesBody (Query (History from MAX_ROOTS)) frame said None said' → StopsList hash verified exchanged (scene asker said stream) (scene asker said' later)
    stops_unanswered said' is from_is exchange (told, unanswered, tells) = stops-list asker told said' is from_is exchange (inl (unanswered, refl, refl)) tells refl

    -- a list came that the client or a monitor refuses
    pub stops_refused : (asker' : Asker H V S) (said' said'' : Said) (body : List ℕ) → IsHead asker.client.chain head → from ≡ head.body.epoch + 1 → exchanged stream (Query (History from MAX_ROOTS)) frame later
        → GivesBody (Query (History from MAX_ROOTS)) frame said (Some body) said' → TellsRootRefusal (λ why. AnyRefuses hash verified body asker.client asker.monitors.items why asker'.client asker'.monitors.items) said' said'' → asker'.finals ≡ asker.finals
        → StopsList hash verified exchanged (scene asker said stream) (scene asker' said'' later)
    stops_refused asker' said' said'' body is from_is exchange (answered, same, silent) (why, refuses, tells) finals =
        let told : Report = client_refuses (codes "client refuses root") why in
        stops-list asker' told said'' is from_is exchange
        (inr (answered, inl (why, subst (λ (list : List ℕ). AnyRefuses hash verified list asker.client asker.monitors.items why asker'.client asker'.monitors.items) same refuses, refl)))
        (subst (λ (s : Said). Tells s told said'') silent tells) finals

    -- a list came, and it had no root that is new
    pub stops_other : (asker' : Asker H V S) (said' said'' after : Said) (body : List ℕ) → IsHead asker.client.chain head → from ≡ head.body.epoch + 1
        → exchanged stream (Query (History from MAX_ROOTS)) frame later → GivesBody (Query (History from MAX_ROOTS)) frame said (Some body) said' → body ≢ no_roots
        → AllUpdate hash verified body asker.client asker.monitors.items asker'.client asker'.monitors.items → (latest : SignedRoot) → IsHead asker'.client.chain latest → latest.body.epoch < from
        → said'' ≡ said' → asker'.finals ≡ asker.finals → Tells said'' other_reply after → StopsList hash verified exchanged (scene asker said stream) (scene asker' after later)
    stops_other asker' said' said'' after body is from_is exchange (answered, same, silent) some updates latest now low still finals tells =
        let none : BringsNone hash verified body asker.client asker.monitors.items asker'.client asker'.monitors.items = (some, updates, (head, latest, is, now, omega (arith, from_is, low))) in
        let brings = subst (λ (list : List ℕ). BringsNone hash verified list asker.client asker.monitors.items asker'.client asker'.monitors.items) same none in
        stops-list asker' other_reply after is from_is exchange (inr (answered, inr (brings, refl))) (subst (λ (s : Said). Tells s other_reply after) (still ∙ silent) tells) finals
