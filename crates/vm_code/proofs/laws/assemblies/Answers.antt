use Rattle.vm_code.proofs.Alike.{one_program, one_text, not_both, one_kind, not_bad, one_place}
use Rattle.vm_code.proofs.Existing.{read, said}
use Rattle.vm_code.proofs.laws.assemblies.Goals as goal

pub returns : goal.returns
returns c = record {
  one_program = one_program;
  one_text = one_text;
  read = read;
  not_both = not_both;
  one_kind = one_kind;
  said = said;
  not_bad = not_bad;
  one_place = one_place;
}
