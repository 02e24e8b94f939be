use Rattle.std.proofs.Common.{◌≡◌, ◌∙◌, sym, length}
use Rattle.prefixtree.specs.Node.{root_of}
use Rattle.prefixtree.specs.Paths.{end_bytes}
use Rattle.items.proofs.Told.{told}
use Rattle.items.proofs.path_lines.told_path.Goals as goal

pub returns-clause-told : goal.returns-clause-told
returns-clause-told g c =
    let of = g.H.NodeHash.digest_of in
    let nonce = c.args.nonce.now in
    let index = c.args.index.now in
    let items = c.args.items.now in
    let path = c.in_ok-path.path in
    let siblings = path.siblings.items in
    let end = end_bytes nonce index (length siblings) path.end in
    let way = c.path_is_way.ensures of nonce index items siblings path.end c.requires c.path_of_items.ensures.size c.in_ok-path.ensures.path in
    let root : c.root-root.result ≡ root_of of nonce items =
    c.root-root.ensures.value ∙ sym ((c.way_is_fold.ensures of (root_of of nonce items) index end siblings).0 way) in
    told of nonce index items siblings path.end c.root-root.result c.path_text.result c.path_text.ensures c.in_ok-path.ensures.path root
