use Rattle.std.proofs.Common.{◌∷◌, [], map}
use Rattle.jn_layout.specs.Keys.{field_key}
use Rattle.jn_layout.specs.Lookups.{IsFieldOf}
use Rattle.jn_layout.proofs.LookupProof.{none_given}
use Rattle.jn_layout.proofs.KeyLaws.{found_by, none_by, field_to, field_from, some_by}
use Rattle.jn_layout.proofs.lookups.find_field.Goals as goal

pub returns-clause-some : goal.returns-clause-some
returns-clause-some c =
    some_by c.place_of.result (λ k f. λ fields are.
    found_by field_key (IsFieldOf c.args.class c.args.name) (c.args.class.0 ∷ c.args.name.0 ∷ []) (field_to c.args.class c.args.name) (field_from c.args.class c.args.name) fields k
    (f (map field_key fields) are).at) c.place_of.ensures.some

pub returns-clause-none : goal.returns-clause-none
returns-clause-none c =
    none_given c.place_of.result c.place_of.ensures.none (λ f. λ fields are.
    none_by field_key (IsFieldOf c.args.class c.args.name) (c.args.class.0 ∷ c.args.name.0 ∷ []) (field_to c.args.class c.args.name) (field_from c.args.class c.args.name) fields (f (map field_key fields) are))
