use Rattle.kb_billd.proofs.Founded.{made_by}
use Rattle.kb_billd.proofs.command.init.init_folder.Goals as goal

pub returns : goal.returns
returns g c = record {
  ended = c.found_lanes.result;
  told = c.outcome_of.ensures;
  made = made_by c.args.today c.args.init.now (g.V.Vault.told c.args.vault.now)
      (g.V.Vault.told
      c.found_lanes.new.vault) c.found_lanes.result
      (rw (c.as_str.ensures, c.get.ensures.value, c.as_str-2.ensures, c.as_str-3.ensures)
      at c.found_lanes.ensures.founded) c.found_lanes.ensures.untouched
      (rw (c.as_str.ensures, c.get.ensures.value) at c.found_lanes.ensures.not_empty)
      (rw (c.as_str.ensures, c.get.ensures.value, c.as_str-2.ensures, c.as_str-3.ensures)
      at c.found_lanes.ensures.before)
      (rw (c.as_str.ensures, c.get.ensures.value, c.as_str-2.ensures, c.as_str-3.ensures)
      at c.found_lanes.ensures.failed)
      (rw (c.as_str.ensures, c.get.ensures.value, c.as_str-2.ensures, c.as_str-3.ensures)
      at c.found_lanes.ensures.no_memory);
  refused = rw (c.as_str-2.ensures, c.as_str-3.ensures) at c.found_lanes.ensures.refused;
  unharmed = rw (c.as_str.ensures, c.get.ensures.value, c.as_str-2.ensures, c.as_str-3.ensures)
      at c.found_lanes.ensures.unharmed;
  crash = rw (c.as_str.ensures, c.get.ensures.value, c.as_str-2.ensures, c.as_str-3.ensures)
      at c.found_lanes.ensures.moments;
  counted = c.found_lanes.ensures.counted;
  others = rw (c.as_str.ensures, c.get.ensures.value) at c.found_lanes.ensures.others;
  others_back = rw (c.as_str.ensures, c.get.ensures.value) at c.found_lanes.ensures.others_back;
  inside = c.found_lanes.ensures.same_out;
  files = c.found_lanes.ensures.same_files;
}
