use Rattle.std.proofs.Common.{◌≡◌, Option, IfOk, ◌∙◌, ap, subst}
use Rattle.vm_code.specs.Instruction.{Decoded}
use Rattle.vm_code.specs.Names.{code_of}
use Rattle.vm_code.specs.Word.{word_read, with_argument}
use Rattle.vm_code.specs.Written.{Says}
use Rattle.vm_code.proofs.Colons.{split_some, split_none}
use Rattle.vm_code.proofs.word.read_word.Goals as goal

pub returns-in-Some-clause-reads : goal.returns-in-Some-clause-reads
returns-in-Some-clause-reads c =
    let word = c.args.word.now in
    let name = c.in-Some.name in
    let argument = c.in-Some.argument in
    let split = rw c.in-Some.is at c.split_once.ensures.cases in
    let read : with_argument (code_of name.now) argument.now ≡ word_read word = split_some word (name, argument) split in
    let said : with_argument c.code_of.result argument.now ≡ word_read word = ap (λ o. with_argument o argument.now) c.code_of.ensures ∙ read in
    subst (λ (d : Option Decoded). IfOk c.with_argument.result (λ said. Says said d)) said c.with_argument.ensures.reads

pub returns-in-None-clause-reads : goal.returns-in-None-clause-reads
returns-in-None-clause-reads c =
    let word = c.args.word.now in
    let split = rw c.in-None.is at c.split_once.ensures.cases in
    subst (λ (d : Option Decoded). IfOk c.without_argument.result (λ said. Says said d)) (split_none word split) c.without_argument.ensures.reads
