use Rattle.std.proofs.Common.{rules, arith, ◌≡◌, ◌∙◌, ap, refl, [], List, ℕ}
use Rattle.std.specs.Prelude.{Ok}
use Rattle.wire.specs.Requests.{read_request, request_seen}
use Rattle.wire.proofs.Requests.{reads_whole}
use Rattle.wire.proofs.request.Request.read.Goals as goal

pub returns-in-Ok-end : goal.returns-in-Ok-end
returns-in-Ok-end c =
    let over : c.read_parts.new.cursor ≡ [] = c.in-Ok-end.ensures.over.0 refl in
    let read : read_request c.args.kind c.args.body.now ≡ Ok (request_seen c.in-Ok.request, c.read_parts.new.cursor) = search rules in
    reads_whole c.args.kind c.args.body.now (request_seen c.in-Ok.request) (λ k. omega (arith, c.type_inv.body k))
    (read ∙ ap (λ (rest : List ℕ). Ok (request_seen c.in-Ok.request, rest)) over)
