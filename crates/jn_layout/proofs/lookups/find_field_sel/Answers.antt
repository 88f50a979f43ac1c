use Rattle.std.proofs.Common.{◌∷◌, [], map}
use Rattle.jn_layout.specs.Keys.{slot_key}
use Rattle.jn_layout.specs.Lookups.{SelectsField}
use Rattle.jn_layout.proofs.LookupProof.{none_given}
use Rattle.jn_layout.proofs.KeyLaws.{found_by, none_by, slot_to, slot_from, some_by}
use Rattle.jn_layout.proofs.lookups.find_field_sel.Goals as goal

pub returns-clause-some : goal.returns-clause-some
returns-clause-some c =
    some_by c.place_of.result (λ k f. λ names are.
    found_by slot_key (SelectsField c.args.name c.args.kind) (c.args.name.0 ∷ c.args.kind ∷ []) (slot_to c.args.name c.args.kind) (slot_from c.args.name c.args.kind) names k
    (f (map slot_key names) are).at) c.place_of.ensures.some

pub returns-clause-none : goal.returns-clause-none
returns-clause-none c =
    none_given c.place_of.result c.place_of.ensures.none (λ f. λ names are.
    none_by slot_key (SelectsField c.args.name c.args.kind) (c.args.name.0 ∷ c.args.kind ∷ []) (slot_to c.args.name c.args.kind) (slot_from c.args.name c.args.kind) names (f (map slot_key names) are))
