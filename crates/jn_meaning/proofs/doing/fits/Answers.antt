use Rattle.jn_meaning.proofs.Lists.{if_ok}
use Rattle.jn_meaning.proofs.Acting.{fits_seen}
use Rattle.jn_meaning.proofs.doing.fits.Goals as goal

pub returns : goal.returns
returns c =
    if_ok c.is_in.result
    (λ b k. fits_seen c.args.w.now.program.now c.args.t.now.known.items c.args.h.now c.args.f.now c.view_in.result c.args.ty.now c.args.v b c.view_in.ensures k)
    c.is_in.ensures
