-- The model gives one reply.
use Rattle.std.proofs.Common.{◌≡◌, ◌≢◌, ℕ, List, Option, Some, None, refl, sym, ◌∙◌, ap, subst, arith}
use Rattle.std.specs.Prelude.{◌↔◌}
use Rattle.keyed.specs.Functions.{Check, Hash}
use Rattle.outside.specs.Bytes.{HoldsBytes}
use Rattle.outside.specs.Files.{Content}
use Rattle.outside.specs.Files as files
use Rattle.command_words.specs.Command.{Command, Vm, Init, Apply, Quorum, command_of}
use Rattle.replies.specs.Asking.{PlanFor, IsModel}
use Rattle.replies.specs.Plan.{End, Done, Refused, Missing, Plan, Given, AreBytesGiven, GivenBy}
use Rattle.replies.specs.Recipe.{model}
use Rattle.replies.specs.Recipes.{one}
use Rattle.replies.specs.Reply.{Reply, ended, reply_of, usage_reply}
use Rattle.replies.specs.Steps.{reads_of}
use Rattle.chain_top.specs.Choice.{Choice}
use Rattle.chain_top.specs.Commands.{recipe_of}
use Rattle.chain_top.specs.Known.{Known}
use Rattle.chain_top.specs.Laws.{ReplyLaws}
use Rattle.chain_top.specs.Reply.{CommandReply}
use Rattle.chain_top.proofs.Sound.{sound}

pub command-model : Known → (hash : Hash) (check : Check) (choice : Choice) (command : Command) → IsModel (model (recipe_of hash check choice command))
command-model laws hash check choice command = one (recipe_of hash check choice command) (sound laws hash check choice command)

module _ (laws : Known) (hash : Hash) (check : Check) (choice : Choice) where
  some_reply : (command : Option Command) (given : Given) → AreBytesGiven given → (reply : Reply) × CommandReply hash check choice command given reply
  some_reply None given are = (usage_reply, refl)
  some_reply (Some command) given are = (let p = (command-model laws hash check choice command).some given are in (reply_of p.0, (p.0, p.1, refl)))

  one_reply : (command : Option Command) (given : Given) (a b : Reply) → CommandReply hash check choice command given a → CommandReply hash check choice command given b → a ≡ b
  one_reply None given a b is be = is ∙ sym be
  one_reply (Some command) given a b is be = is.2 ∙ ap reply_of ((command-model laws hash check choice command).one given is.0 be.0 is.1 be.1) ∙ sym be.2

  -- for what files hold by their names

  abbrev ForFiles : Option Command → (List ℕ → Content) → Reply → Type 0
  ForFiles command contents reply = (given : Given) × CommandReply hash check choice command given reply × GivenBy (Some contents) (reads_of reply.steps) given

  some_for : (command : Option Command) (contents : List ℕ → Content) → ((name : List ℕ) → HoldsBytes (contents name)) → (reply : Reply) × ForFiles command contents reply
  some_for None contents are = (usage_reply, (λ n. None, refl, tt))
  some_for (Some command) contents are =
      let p = (command-model laws hash check choice command).some_for contents are in
      (reply_of p.plan, (p.given, (p.plan, p.is_plan, refl), subst (λ (rs : List files.Read). GivenBy (Some contents) rs p.given) (sym (laws.steps.reads_ended p.plan.steps p.plan.end)) p.agrees))

  plan_for : (command : Command) (contents : List ℕ → Content) (reply : Reply) → (is : ForFiles (Some command) contents reply) → PlanFor (model (recipe_of hash check choice command)) contents
  plan_for command contents reply (given, (plan, is, same), agrees) = record {
    given = given;
    plan = plan;
    is_plan = is;
    agrees = subst (λ (rs : List files.Read). GivenBy (Some contents) rs given) (ap (λ (r : Reply). reads_of r.steps) same ∙ laws.steps.reads_ended plan.steps plan.end) agrees;
  }

  one_for : (command : Option Command) (contents : List ℕ → Content) (a b : Reply) → ForFiles command contents a → ForFiles command contents b → a ≡ b
  unfolding plan_for
  one_for None contents a b is be = is.1 ∙ sym be.1
  one_for (Some command) contents a b is be =
      is.1.2 ∙ ap reply_of ((command-model laws hash check choice command).one_for contents (plan_for command contents a is) (plan_for command contents b be)) ∙ sym be.1.2

any_choice : (hash : Hash) (check : Check) (choice other : Choice) (command : Option Command) (given : Given) (reply : Reply) → CommandReply hash check choice command given reply → CommandReply hash check other command given reply
any_choice hash check choice other None given reply is = is
any_choice hash check choice other (Some (Vm limit program args)) given reply is = is
any_choice hash check choice other (Some (Init ledger time program)) given reply is = is
any_choice hash check choice other (Some (Apply ledger offers)) given reply is = is
any_choice hash check choice other (Some (Quorum m keys)) given reply is = is

-- ---- statuses

some_command : (c : Command) → Some c ≡ None → ⊥
some_command c e = cc

plan_status : (plan : Plan) → (reply_of plan).status ≢ 1
plan_status plan = by_end plan.end
  where
    by_end : (end : End) → (ended plan.steps end).status ≢ 1
    by_end Done = λ e. absurd (omega (arith, e))
    by_end (Refused line) = λ e. absurd (omega (arith, e))
    by_end Missing = λ e. absurd (omega (arith, e))

pub usage_status : (hash : Hash) (check : Check) (choice : Choice) (command : Option Command) (given : Given) (reply : Reply) → CommandReply hash check choice command given reply → (reply.status ≡ 1) ↔ (command ≡ None)
usage_status hash check choice None given reply is = (λ one. refl, λ e. ap (λ (r : Reply). r.status) is)
usage_status hash check choice (Some command) given reply is =
    (λ one. absurd (plan_status is.0 (sym (ap (λ (r : Reply). r.status) is.2) ∙ one)), λ e. absurd (some_command command e))

pub reply_laws : Known → (hash : Hash) (check : Check) → ReplyLaws hash check
reply_laws laws hash check = record {
  some = λ words choice given are. some_reply laws hash check choice (command_of words) given are;
  one = λ words choice given a b is be. one_reply laws hash check choice (command_of words) given a b is be;
  some_for = λ words choice contents are. some_for laws hash check choice (command_of words) contents are;
  one_for = λ words choice contents a b is be. one_for laws hash check choice (command_of words) contents a b is be;
  usage = λ words choice given reply is. usage_status hash check choice (command_of words) given reply is;
  any_choice = λ words choice other given reply. (any_choice hash check choice other (command_of words) given reply, any_choice hash check other choice (command_of words) given reply);
}
