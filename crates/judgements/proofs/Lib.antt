mod Judgements
