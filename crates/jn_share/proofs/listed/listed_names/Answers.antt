use Rattle.std.proofs.Common.{ap, ◌∙◌, map, [], ◌++◌, List}
use Rattle.jn_base.specs.declared.tree.Decl.{Decl}
use Rattle.jn_base.specs.Paths.{Path}
use Rattle.jn_sem.specs.NotFamily.{listed_by, listed_in_decl}
use Rattle.jn_share.specs.declared.listed.ListedName.{ListedName}
use Rattle.jn_share.specs.Listing.{listed_of}
use Rattle.jn_share.proofs.listed.listed_names.Goals as goal

pub returns : goal.returns
returns c =
    c.in_ok-add_decls.ensures
    ∙ (ap (λ (xs : List ListedName). map listed_of xs ++ listed_by c.root-root.result (map listed_in_decl c.as_slice.result.now)) c.new-all.ensures.items
    ∙ (ap (λ (R : Path). listed_by R (map listed_in_decl c.as_slice.result.now)) c.root-root.ensures
    ∙ ap (λ (ds : List Decl). listed_by [] (map listed_in_decl ds)) c.as_slice.ensures))
