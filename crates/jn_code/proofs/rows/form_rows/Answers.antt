use Rattle.std.proofs.Common.{◌≤◌, [], ◌∷◌, pos, arith}
use Rattle.std.proofs.lemmas.List.Elements.{All-nil, All-cons}
use Rattle.jn_code.specs.declared.instr.Instr.TheVariants as op
use Rattle.jn_code.specs.Form.{CodeInForm, InstrInForm}
use Rattle.jn_code.specs.Example.{plain_code, seven}
use Rattle.jn_code.proofs.rows.form_rows.Goals as goal

code : CodeInForm (plain_code 1 seven)
code = record {
  params_count = omega arith;
  params = All-nil _;
  result = omega arith;
  locals_count = omega arith;
  locals = All-nil _;
  stack = omega arith;
  count = omega arith;
  instrs = All-cons InstrInForm (op.Int (pos 7)) (op.Printi ∷ (op.Ret ∷ [])) tt (All-cons InstrInForm op.Printi (op.Ret ∷ []) tt (All-cons InstrInForm op.Ret [] tt (All-nil InstrInForm)));
}

pub returns-clause-plain : goal.returns-clause-plain
returns-clause-plain c = record {
  texts_count = omega arith;
  texts = All-nil _;
  methods_count = omega arith;
  methods = All-nil _;
  fields_count = omega arith;
  fields = All-nil _;
  groups_count = omega arith;
  groups = All-nil _;
  classes_count = omega arith;
  classes = All-nil _;
  codes_count = omega arith;
  codes = All-cons CodeInForm (plain_code 1 seven) [] code (All-nil CodeInForm);
}

pub returns-clause-truth : goal.returns-clause-truth
returns-clause-truth c f =
    let code = f.codes 0 (plain_code 1 []) (omega arith) in
    let two : 2 ≤ 1 = code.instrs 0 op.Ret (omega arith) in omega arith

pub returns-clause-stack : goal.returns-clause-stack
returns-clause-stack c f = let code = f.codes 0 (plain_code 1 []) (omega arith) in let low : 4097 ≤ 4096 = code.stack in omega arith
