use Rattle.player.proofs.text.put_beside.Goals as goal

pub returns-in-Submit : goal.returns-in-Submit
returns-in-Submit c ts = rw c.in-Submit.is (c.put_submit.ensures 0)
