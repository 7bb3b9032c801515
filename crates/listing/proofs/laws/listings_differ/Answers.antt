use Rattle.listing.proofs.Telling.{listings_apart}
use Rattle.listing.proofs.laws.listings_differ.Goals as goal

pub returns : goal.returns
returns g c = listings_apart g.S.Scale.rank g.S.Scale.text g.met.S.Scale.ranks_fit g.met.S.Scale.texts_run g.met.S.Scale.texts_apart
