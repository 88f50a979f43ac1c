use Rattle.std.proofs.Common.{◌≡◌, length, arith}
use Rattle.jn_table.proofs.nodes.add_level.Goals as goal

pub returns : goal.returns
returns c =
    let off : c.len-off.result ≡ length c.args.nodes.now.paths.items = omega
    (arith, c.len-off.ensures, c.args.nodes.now.paths.ok.0) in
    record {
      paths = rw c.deref.ensures.value at c.in_ok-add_paths.ensures;
      direct = rw (c.deref-2.ensures.value, off) at c.in_ok-add_rows.ensures;
    }
