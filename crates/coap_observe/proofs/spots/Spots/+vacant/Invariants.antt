use Rattle.coap_observe.proofs.spots.Spots.+vacant.Given as goal

abbrev pub decreases-vacant : goal.decreases-vacant
decreases-vacant l = l.width
