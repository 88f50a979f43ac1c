use Rattle.std.proofs.Common.{◌∙◌, ap, refl}
use Rattle.jn_intern.proofs.Pools.{keeps_more, scope_kept}
use Rattle.jn_rules.specs.Exprs.{Passing}
use Rattle.jn_expr.proofs.Scopes.{scope_stays}
use Rattle.jn_expr.proofs.FieldSteps.{put_is}
use Rattle.jn_intern.specs.Pools.{shown}
use Rattle.jn_expr.specs.Found.{found_of}
use Rattle.jn_expr.proofs.Typeds.{field_put}
use Rattle.jn_check.proofs.sets.field_at.Goals as goal

pub put_in-requires-clause-scope : goal.put_in-requires-clause-scope
put_in-requires-clause-scope c = scope_stays c.in_ok-path.ensures.scope c.in_ok-ty.ensures.keeps

pub returns-in_err-put-clause-stays : goal.returns-in_err-put-clause-stays
returns-in_err-put-clause-stays c = record { same = refl; pool = keeps_more c.in_ok-ty.ensures.keeps c.put_in.ensures.keeps }

pub returns-clause-is : goal.returns-clause-is
returns-clause-is c =
    let k = keeps_more c.in_ok-ty.ensures.keeps c.in_ok-put.ensures.keeps in record {
      slot = record { number = c.in_ok-put.ensures.is.number; fits = c.in_ok-put.ensures.fits; scope = scope_stays c.in_ok-path.ensures.scope k; grows = c.in_ok-path.ensures.grows };
      shows = put_is c.args.env.now.pool c.intern.new.self c.put_in.new.pool c.path_of.new.scope c.in_ok-path.path c.in_ok-ty.ty c.in_ok-put.put c.args.found.now.ty _ c.in_ok-path.ensures.scope
          c.in_ok-ty.ensures.keeps c.in_ok-path.ensures.is c.in_ok-ty.ensures.shows.1 c.in_ok-put.ensures.is;
      is = scope_kept c.path_of.new.scope c.in_ok-path.ensures.scope.known k ∙ ap (λ (x : Passing). x.scope) c.in_ok-path.ensures.is;
      added = c.in_ok-note_member.ensures;
    }

pub returns-clause-stays : goal.returns-clause-stays
returns-clause-stays c = record { same = refl; pool = keeps_more c.in_ok-ty.ensures.keeps c.in_ok-put.ensures.keeps }

pub path_of-requires-clause-fits : goal.path_of-requires-clause-fits
path_of-requires-clause-fits c = c.requires.fits.type

pub put_in-requires-clause-moved : goal.put_in-requires-clause-moved
put_in-requires-clause-moved c =
    field_put c.args.p.now c.args.env.now.pool c.intern.new.self c.args.scope.now c.path_of.new.scope (shown c.args.env.now.pool c.args.v.ty) c.args.v.path c.in_ok-path.path
    c.args.f.now.name (found_of c.args.found.now) _ c.requires.parts.shallow c.requires.parts.well c.in_ok-path.ensures c.requires.fits c.requires.found c.in_ok-ty.ensures.keeps
    c.in_ok-ty.ensures.shows.1
