use Rattle.std.proofs.Common.{◌∷◌, [], map}
use Rattle.jn_layout.specs.Keys.{body_key}
use Rattle.jn_layout.specs.Lookups.{IsBodyOf}
use Rattle.jn_layout.proofs.LookupProof.{none_given}
use Rattle.jn_layout.proofs.KeyLaws.{found_by, none_by, body_to, body_from, some_by}
use Rattle.jn_layout.proofs.lookups.find_body.Goals as goal

pub returns-clause-some : goal.returns-clause-some
returns-clause-some c =
    some_by c.place_of.result (λ k f. λ bodies are.
    found_by body_key (IsBodyOf c.args.class c.args.name) (c.args.class.0 ∷ c.args.name.0 ∷ []) (body_to c.args.class c.args.name) (body_from c.args.class c.args.name) bodies k
    (f (map body_key bodies) are).at) c.place_of.ensures.some

pub returns-clause-none : goal.returns-clause-none
returns-clause-none c =
    none_given c.place_of.result c.place_of.ensures.none (λ f. λ bodies are.
    none_by body_key (IsBodyOf c.args.class c.args.name) (c.args.class.0 ∷ c.args.name.0 ∷ []) (body_to c.args.class c.args.name) (body_from c.args.class c.args.name) bodies (f (map body_key bodies) are))
