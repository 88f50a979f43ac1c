use Rattle.jn_layout.proofs.rows.make.Goals as goal

pub returns : goal.returns
returns c = record {
  kin = c.in_ok-kin.ensures;
  families = c.in_ok-families.ensures.is;
  firsts = λ q g f a k. c.in_ok-firsts.ensures q g f a k;
  declared = c.in_ok-declared.ensures;
  methods = c.in_ok-finder.ensures.methods;
  fields = c.in_ok-finder.ensures.fields;
}
