use Rattle.ih_roomdays.proofs.AgeLemmas.{profiles-in_range}
use Rattle.ih_roomdays.proofs.profiles.profiles_of.Goals as goal

pub returns : goal.returns
returns c = record {
  genders = c.in_ok-genders.ensures;
  ages = c.in_ok-ages.ensures;
  in_range = profiles-in_range c.args.inst.now.draft c.args.inst.now.valid (record { genders = c.in_ok-genders.genders; ages = c.in_ok-ages.ages }) c.in_ok-genders.ensures c.in_ok-ages.ensures;
}
