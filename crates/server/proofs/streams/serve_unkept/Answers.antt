use Rattle.std.proofs.Common.{rules, ◌≡◌, Err, Some}
use Rattle.server.specs.DirectoryOptions.{directory_values}
use Rattle.server.specs.Directories.{keys_of, HasBegun}
use Rattle.server.specs.Faults.{of_serving}
use Rattle.server.proofs.Unkept.{serving_knows_the_keys, unserved}
use Rattle.server.proofs.streams.serve_unkept.Goals as goal

pub returns-in_err-serve-clause-serves : goal.returns-in_err-serve-clause-serves
returns-in_err-serve-clause-serves g c =
    let passed : c.from_residual-in_err-serve.result ≡ Err (of_serving c.in_err-serve.field-0.0) = search rules in
    let keys : keys_of (directory_values c.args.order) ≡ Some c.in_ok-keys.keys = search rules in
    let begins : HasBegun c.in_ok-keys.keys c.new-hub.result.service.directory = search rules in
    let token : c.new-hub.result.service.token ≡ (c.in_ok-keys.keys).token = search rules in
    unserved (directory_values c.args.order) _ _ _ _ c.in_err-serve.field-0.0 _ passed (c.in_ok-keys.keys, c.new-hub.result.service, _, keys, begins, token, c.in_err-serve.ensures.serves)

pub returns-in_err-serve-clause-unread : goal.returns-in_err-serve-clause-unread
returns-in_err-serve-clause-unread g c =
    let passed : c.from_residual-in_err-serve.result ≡ Err (of_serving c.in_err-serve.field-0.0) = search rules in
    λ bad. absurd (serving_knows_the_keys c.in_err-serve.field-0.0 _ passed bad)
