-- What the store that is lent does is what the store does.
use Rattle.matrix.proofs.lent.RefMutStore.add_multiple.Goals as goal

pub add_multiple-requires : goal.add_multiple-requires
add_multiple-requires g c κs = λ h. h

pub returns : goal.returns
returns g c =
    let e = c.add_multiple.ensures in
    record { answer = e.answer; after = e.after; terms = e.terms; backing = cc (e.terms, e.backing) }
