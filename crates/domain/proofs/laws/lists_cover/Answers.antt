use Rattle.domain.proofs.Covers.{add_covers, join_covers, meet_covers, never_too_many}
use Rattle.domain.proofs.laws.lists_cover.Goals as goal

pub returns : goal.returns
returns g c = record {
  adding = add_covers g.S.Scale.rank;
  join = join_covers g.S.Scale.rank;
  meet = meet_covers g.S.Scale.rank;
  bound = never_too_many g.S.Scale.rank;
}
