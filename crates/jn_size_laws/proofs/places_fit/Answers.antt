use Rattle.jn_size_laws.proofs.Fits.{expr_fits, stmts_fit}
use Rattle.jn_size_laws.proofs.places_fit.Goals as goal

pub returns : goal.returns
returns x = λ p n scratch code. record { expr = expr_fits p n scratch code; stmts = stmts_fit p n scratch code }
