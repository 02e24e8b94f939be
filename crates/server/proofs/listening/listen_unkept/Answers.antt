use Rattle.std.proofs.Common.{rules, ◌≡◌, Some}
use Rattle.server.specs.ConnectionOptions.{connections_of}
use Rattle.server.specs.DirectoryOptions.{directory_values}
use Rattle.server.specs.Directories.{keys_of, HasBegun}
use Rattle.server.proofs.Unkept.{serves_begun}
use Rattle.server.proofs.listening.listen_unkept.Goals as goal

pub returns-clause-tells : goal.returns-clause-tells
returns-clause-tells g c =
    let keys : keys_of (directory_values c.args.order.directory) ≡ Some c.in_ok-keys.keys = search rules in
    let begins : HasBegun c.in_ok-keys.keys c.new-hub.result.service.directory = search rules in
    let token : c.new-hub.result.service.token ≡ (c.in_ok-keys.keys).token = search rules in
    serves_begun (directory_values c.args.order.directory) (connections_of c.args.order) c.in_ok-keys.keys c.new-hub.result.service _ _ _ keys begins token c.listen_from.ensures.tells
