-- What a call did, from what its command did and how it ended.
use Rattle.std.proofs.Common.{◌≡◌, ◌⊎◌, ℕ, List, [], Option, Some, None, inl, inr, refl, sym, ◌∙◌, ap, subst}
use Rattle.keyed.specs.Functions.{Check, Hash}
use Rattle.outside.specs.Fault.{Rose}
use Rattle.outside.specs.Files.{Content}
use Rattle.outside.specs.Files as files
use Rattle.outside.specs.World.{World, Io}
use Rattle.command_words.specs.Command.{Command, Apply, command_of}
use Rattle.replies.specs.Answer.{HasStatus, whole, read_fault, write_fault, no_memory, HasCauses, GoesOn}
use Rattle.replies.specs.Ending.{Ended, Concludes}
use Rattle.replies.specs.Going.{plan_at}
use Rattle.replies.specs.Plan.{Given, Plan, GivenBy, TellsBytes, Went}
use Rattle.replies.specs.Recipe.{model, FilesRead, OwnRefusal}
use Rattle.replies.specs.Recipes.{follows, complete}
use Rattle.replies.specs.Reply.{Reply, reply_of, usage_reply}
use Rattle.replies.specs.Runs.{Runs}
use Rattle.replies.specs.Steps.{Begun, all_of, Did, reads_of, writes_of}
use Rattle.replies.specs.Whole.{NoneFailed, IsWhole}
use Rattle.replies.specs.declared.stop.Stop.{Stop}
use Rattle.chain_top.specs.Call.{Call}
use Rattle.chain_top.specs.Choice.{Choice}
use Rattle.chain_top.specs.Commands.{recipe_of}
use Rattle.chain_top.specs.Growth.{Grows, Grown, GrowthLaws, ApplyReply, appends}
use Rattle.chain_top.specs.Known.{Known}
use Rattle.chain_top.specs.Laws.{ReplyLaws}
use Rattle.chain_top.specs.Reply.{CommandReply, IsReply}
use Rattle.word_lines.specs.Word.{Word}
use Rattle.chain_top.proofs.Growing.{given_reads}
use Rattle.chain_top.proofs.Replies.{command-model}
use Rattle.chain_top.proofs.Sound.{sound}

-- ---- how it concludes

module _ (laws : Known) (hash : Hash) (check : Check) (words : List Word) (choice : Choice) (a : Io) where
  -- a command did what its recipe says, and ended
  pub concludes-command : (mid b : Io) (status : ℕ) (command : Command) (stop : Option Stop) → Some command ≡ command_of words → TellsBytes a.world → Runs (recipe_of hash check choice command) a mid stop → ((plan : Plan) (start : Io) → Went plan start mid stop → Ended (reply_of plan) start b status) → Concludes (IsReply hash check words choice) a b status
  concludes-command mid b status command stop is tells runs ends =
      let f = follows (recipe_of hash check choice command) (sound laws hash check choice command) a mid stop tells runs in
      record {
        given = f.given;
        reply = reply_of f.plan;
        is_reply = subst (λ (o : Option Command). CommandReply hash check choice o f.given (reply_of f.plan)) is (f.plan, f.is_plan, refl);
        agrees = subst (λ (rs : List files.Read). GivenBy a.world.contents rs f.given) (sym (laws.steps.reads_ended f.plan.steps f.plan.end)) f.agrees;
        ended = ends f.plan a f.went;
      }

  -- the words are no command
  pub concludes-usage : (b : Io) (status : ℕ) → None ≡ command_of words → Ended usage_reply a b status → Concludes (IsReply hash check words choice) a b status
  concludes-usage b status is ended = record {
    given = λ n. None;
    reply = usage_reply;
    is_reply = subst (λ (o : Option Command). CommandReply hash check choice o (λ n. None) usage_reply) is refl;
    agrees = tt;
    ended = ended;
  }

  -- memory ran out before the words were read
  pub concludes-none : (status : ℕ) → TellsBytes a.world → ((reply : Reply) → Ended reply a a status) → Concludes (IsReply hash check words choice) a a status
  concludes-none status tells ends = by_command (command_of words) refl
    where
      by_command : (o : Option Command) → o ≡ command_of words → Concludes (IsReply hash check words choice) a a status
      by_command None is = concludes-usage a status is (ends usage_reply)
      by_command (Some command) is =
          let p = plan_at (model (recipe_of hash check choice command)) a.world (command-model laws hash check choice command).some_for tells in
          record {
            given = p.given;
            reply = reply_of p.plan;
            is_reply = subst (λ (o : Option Command). CommandReply hash check choice o p.given (reply_of p.plan)) is (p.plan, p.is_plan, refl);
            agrees = subst (λ (rs : List files.Read). GivenBy a.world.contents rs p.given) (sym (laws.steps.reads_ended p.plan.steps p.plan.end)) p.agrees;
            ended = ends (reply_of p.plan);
          }

-- ---- what follows from that

wholly : (reply : Reply) (begun : Begun) (a b : World) (status : ℕ) → Did begun a b → HasCauses a b status → HasStatus reply begun status → NoneFailed a b → IsWhole reply a b status ⊎ (status ≡ 5)
wholly reply begun a b status did causes (whole is low all) none = inl (record { status_is = is; did = subst (λ (x : Begun). Did x a b) all did })
wholly reply begun a b status did causes (read_fault is fault) none = absurd (none.reads (causes.read_fault is))
wholly reply begun a b status did causes (write_fault is fault) none = absurd (by_kind (causes.write_fault is))
  where
    by_kind : Rose a.write_faults b.write_faults ⊎ Rose a.sink_faults b.sink_faults → ⊥
    by_kind (inl rose) = none.writes rose
    by_kind (inr rose) = none.sink rose
wholly reply begun a b status did causes (no_memory is none_failed undone) none = inr is

-- a status of 0 is that of a reply that was all done
all_done : (reply : Reply) (begun : Begun) (a b : World) (status : ℕ) → Did begun a b → HasStatus reply begun status → status ≡ 0 → (reply.status ≡ 0) × Did (all_of reply.steps) a b
all_done reply begun a b status did (whole is low all) zero = (sym is ∙ zero, subst (λ (x : Begun). Did x a b) all did)
all_done reply begun a b status did (read_fault is fault) zero = cc
all_done reply begun a b status did (write_fault is fault) zero = cc
all_done reply begun a b status did (no_memory is failed undone) zero = cc

module _ (laws : Known) (replies : (hash : Hash) (check : Check) → ReplyLaws hash check) (growing : (hash : Hash) (check : Check) → GrowthLaws hash check) (hash : Hash) (check : Check) (words : List Word) where
  of_command : (given : Given) (reply : Reply) (command : Command) → command_of words ≡ Some command → IsReply hash check words [] given reply → CommandReply hash check [] (Some command) given reply
  of_command given reply command is reads = subst (λ (o : Option Command). CommandReply hash check [] o given reply) is reads

  completes : (a : World) (given : Given) (reply : Reply) → IsReply hash check words [] given reply → GivenBy a.contents (reads_of reply.steps) given → (contents : List ℕ → Content) (command : Command) → command_of words ≡ Some command → a.contents ≡ Some contents → FilesRead (recipe_of hash check [] command) contents → (reply.status ≡ 0) ⊎ OwnRefusal (recipe_of hash check [] command) contents reply
  completes a given reply is_reply agrees contents command is told read =
      let at = of_command given reply command is is_reply in
      let on : GivenBy (Some contents) (reads_of reply.steps) given = subst (λ (o : Option (List ℕ → Content)). GivenBy o (reads_of reply.steps) given) told agrees in
      let of_plan : GivenBy (Some contents) (reads_of at.0.steps) given = subst (λ (rs : List files.Read). GivenBy (Some contents) rs given) (ap (λ (r : Reply). reads_of r.steps) at.2 ∙ laws.steps.reads_ended at.0.steps at.0.end) on in
      subst (λ (r : Reply). (r.status ≡ 0) ⊎ OwnRefusal (recipe_of hash check [] command) contents r) (sym at.2)
      (complete (recipe_of hash check [] command) (sound laws hash check [] command) contents given at.0 at.1 of_plan read)

  grown : (a b : World) (status : ℕ) (given : Given) (reply : Reply) (begun : Begun) → IsReply hash check words [] given reply → GivenBy a.contents (reads_of reply.steps) given → Did begun a b → HasStatus reply begun status → (ledger offers : Word) → command_of words ≡ Some (Apply ledger offers) → status ≡ 0 → Grown hash check ledger offers given reply a b
  grown a b status given reply begun is_reply agrees did has ledger offers is zero =
      let at : ApplyReply hash check ledger offers given reply = of_command given reply (Apply ledger offers) is is_reply in
      let (done, all) = all_done reply begun a b status did has zero in
      let grows : Grows hash check ledger (given 0) (given 1) reply = (growing hash check).grows ledger offers given reply at done in
      record {
        grows = grows;
        read = λ contents told.
            given_reads laws hash check ledger offers contents given reply at done (subst (λ (o : Option (List ℕ → Content)). GivenBy o (reads_of reply.steps) given) told agrees);
        ends = λ contents told.
            let on : GoesOn (appends ledger grows.added) (Some contents) b.contents =
            subst (λ (ws : List files.Write). GoesOn ws (Some contents) b.contents) grows.writes
            (subst (λ (k : Option (List ℕ → Content)). GoesOn (writes_of reply.steps) k b.contents) told (laws.steps.goes_on reply.steps a b all)) in
            (growing hash check).ends ledger grows.added contents b.contents on;
      }

  pub called : (a b : Io) (status : ℕ) → Concludes (IsReply hash check words []) a b status → Call hash check words a.world b.world status
  called a b status d =
      let e = d.ended in
      let causes = laws.tells.causes d.reply a.world b.world status e.begun e.did e.has_status in
      record {
        given = d.given;
        choice = [];
        reply = d.reply;
        is_reply = d.is_reply;
        agrees = d.agrees;
        begun = e.begun;
        front = e.front;
        did = e.did;
        has_status = e.has_status;
        tells = laws.tells.tells d.reply a.world b.world status e.begun e.front e.did e.has_status;
        causes = causes;
        whole = wholly d.reply e.begun a.world b.world status e.did causes e.has_status;
        usage = (replies hash check).usage words [] d.given d.reply d.is_reply;
        complete = completes a.world d.given d.reply d.is_reply d.agrees;
        growth = grown a.world b.world status d.given d.reply e.begun d.is_reply d.agrees e.did e.has_status;
      }
