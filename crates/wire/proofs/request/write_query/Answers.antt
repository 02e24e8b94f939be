use Rattle.std.proofs.Common.{arith, rules, ◌≡◌, ◌++◌, List, [], ℕ, OnOk, subst}
use Rattle.encoding.specs.Endian.{big_bytes}
use Rattle.encoding.specs.Forms.{counted_bytes}
use Rattle.wire.specs.declared.request.TheConstants.{LOOKUP, HISTORY}
use Rattle.wire.specs.Frames.{frame_bytes}
use Rattle.commands.specs.Operations.{question}
use Rattle.wire.specs.Requests.{Query}
use Rattle.wire.proofs.Requests.{is_formed}
use Rattle.wire.proofs.request.write_query.Goals as goal

pub returns-in-Promise-clause-form : goal.returns-in-Promise-clause-form
returns-in-Promise-clause-form c = is_formed (Query (question c.args.query.now)) (rw c.in-Promise.is c.length_bytes.ensures.bytes) c.requires

pub returns-in-Lookup-clause-form : goal.returns-in-Lookup-clause-form
returns-in-Lookup-clause-form c = is_formed (Query (question c.args.query.now)) (rw c.in-Lookup.is (omega arith, c.length_bytes-in-Lookup.ensures.bytes)) c.requires

pub returns-in-Lookup-clause-ok : goal.returns-in-Lookup-clause-ok
returns-in-Lookup-clause-ok c =
    let body : c.bytes.result.now ++ (c.in-Lookup.name.now ++ []) ≡ big_bytes 8 c.in-Lookup.epoch ++ counted_bytes c.in-Lookup.name.now = search rules in
    rw c.in-Lookup.is
    (subst (λ (b : List ℕ). OnOk c.append_frame-in-Lookup.result (c.append_frame-in-Lookup.new.output.items ≡ c.args.output.now.items ++ frame_bytes (record { kind = LOOKUP; body = b }))) body
    c.append_frame-in-Lookup.ensures.ok)

pub returns-in-History-clause-ok : goal.returns-in-History-clause-ok
returns-in-History-clause-ok c =
    let body : c.bytes-in-History.result.now ++ [] ≡ big_bytes 8 c.in-History.from ++ big_bytes 2 c.in-History.count = search rules in
    rw c.in-History.is
    (subst (λ (b : List ℕ). OnOk c.append_frame-in-History.result (c.append_frame-in-History.new.output.items ≡ c.args.output.now.items ++ frame_bytes (record { kind = HISTORY; body = b }))) body
    c.append_frame-in-History.ensures.ok)
