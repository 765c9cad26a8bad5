use Rattle.history_calls.proofs.text.push_question.Goals as goal

pub returns-in-RealmParams : goal.returns-in-RealmParams
returns-in-RealmParams c = rw c.in-RealmParams.is c.push_realm_params.ensures
