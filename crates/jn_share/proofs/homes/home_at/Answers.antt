use Rattle.std.proofs.Common.{◌≡◌, ◌<◌, length, ◌∙◌, sym, ap, subst, List, reverse, slice_get, Some}
use Rattle.std.proofs.lemmas.List.{reverse-reverse}
use Rattle.std.proofs.lemmas.Option.{slice_get-get_or}
use Rattle.jn_reach.proofs.Searches.{same_some}
use Rattle.jn_base.specs.declared.tree.Name.{Name}
use Rattle.jn_base.specs.declared.path.Path.{Path as ShownPath}
use Rattle.jn_base.specs.Paths.{shown}
use Rattle.jn_homes.specs.Homes.{HomeIs}
use Rattle.jn_share.proofs.homes.home_at.Goals as goal

pub returns : goal.returns
returns c = λ d R at.
    let path = c.index-known-k.result in
    let here : slice_get c.args.t.now.known.items c.args.k ≡ Some path =
    subst (λ (ps : List ShownPath). slice_get ps c.args.k ≡ Some path) c.known.ensures
    (slice_get-get_or c.known.result.now c.args.k path
    (subst (λ (ps : List ShownPath). c.args.k < length ps) (sym c.known.ensures) c.requires)
    ∙ ap Some (sym c.index-known-k.is)) in
    let names : path.names ≡ reverse R = ap (λ (q : ShownPath). q.names)
    (same_some (slice_get c.args.t.now.known.items c.args.k) path (shown R) here at) in
    subst (λ (S : List Name). HomeIs c.args.p.now S c.home_near.result) (ap reverse names ∙ reverse-reverse R)
    (c.home_near.ensures d)
