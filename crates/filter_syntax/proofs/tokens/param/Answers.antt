use Rattle.std.proofs.Common.{◌∙◌, sym, arith}
use Rattle.filter_syntax.proofs.Founds.{param_found, param_past, param_none}
use Rattle.filter_syntax.proofs.tokens.param.Goals as goal

pub returns-in-Some : goal.returns-in-Some
returns-in-Some c =
    param_found c.args.behind.now c.in-Some.n c.run_len-len.result c.run_len-len.ensures.is c.run_len-len.ensures.within
    (sym c.decimal_within.ensures.reads ∙ c.in-Some.is) c.if-n-ge1.true c.if-n-le-PARAM_MOST.true

pub returns-in_default : goal.returns-in_default
returns-in_default c =
    param_past c.args.behind.now c.in-Some.n c.run_len-len.result c.run_len-len.ensures.is
    (sym c.decimal_within.ensures.reads ∙ c.in-Some.is)
    (λ low high. omega arith)

pub returns-in_default-2 : goal.returns-in_default-2
returns-in_default-2 c =
    param_past c.args.behind.now c.in-Some.n c.run_len-len.result c.run_len-len.ensures.is
    (sym c.decimal_within.ensures.reads ∙ c.in-Some.is)
    (λ low high. omega arith)

pub returns-in_default-3 : goal.returns-in_default-3
returns-in_default-3 c =
    param_none c.args.behind.now c.run_len-len.result c.run_len-len.ensures.is (sym c.decimal_within.ensures.reads ∙ c.in_default.is)
