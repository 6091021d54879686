use Rattle.std.proofs.Common.{ap, ◌∙◌}
use Rattle.kb_codec.specs.declared.command.Command.{Command}
use Rattle.kb_codec.specs.Senders.{is_text}
use Rattle.kb_machine.specs.Histories.{entry_after}
use Rattle.kb_lane.specs.Lanes.{machine_of}
use Rattle.kb_make.proofs.ShopTexts.{where_ok}
use Rattle.kb_make.proofs.opening.hand_catalog_in.Goals as goal

pub hand_in-requires : goal.hand_in-requires
hand_in-requires c = record { text = ap is_text c.in_ok-command.ensures.2; idle = c.requires.idle }

pub returns-clause-handed : goal.returns-clause-handed
returns-clause-handed c =
    let read = c.in_ok-command.ensures in
    where_ok c.hand_in.result (λ handed. (
      read.0,
      read.1,
      handed ∙ ap (λ (command : Command). entry_after (machine_of c.args.lane.now) (c.args.today, command))
          read.2,
    )) c.hand_in.ensures.handed
